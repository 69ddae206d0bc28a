-- What comes of the desks that wait at a door.
use Rattle.std.specs.Prelude.{◌≡◌, List, [], ◌∷◌}
use Rattle.loop_desk.specs.Seen.{SeenDesk}
use Rattle.loop_pipeline.specs.declared.waiting.Arrival.{Arrival}
use Rattle.loop_pipeline.specs.declared.waiting.Arrival.TheVariants.{Joined, Full, Nobody}
use Rattle.loop_pipeline.specs.Backs.{SeenBack, with_joined}

-- Of the desks that wait the first one joins a back, and the others wait on; or all wait on, and the back is as it was.
-- None goes elsewhere.
abbrev pub LetsIn : {D A : Type 0} → Arrival → List (SeenDesk D) → List (SeenDesk D) → SeenBack D A → SeenBack D A
    → Type 0
LetsIn {D} Joined waited waiting old new =
    (desk : SeenDesk D) × (waited ≡ desk ∷ waiting) × (new ≡ with_joined desk old)
LetsIn Full waited waiting old new = (waiting ≡ waited) × (new ≡ old)
LetsIn Nobody waited waiting old new = (waited ≡ []) × (waiting ≡ []) × (new ≡ old)

-- a back, after a look at a door: another desk has joined it, or it is as it was
abbrev pub HasArrived : {D A : Type 0} → Arrival → SeenBack D A → SeenBack D A → Type 0
HasArrived {D} Joined old new = (desk : SeenDesk D) × (new ≡ with_joined desk old)
HasArrived _ old new = new ≡ old
