-- What happens to a camera's desks, in order: parts of calls, turns to another desk, and desks that join.
use Rattle.std.specs.Prelude.{◌≡◌, ◌≤◌, ℕ, Bool, true, Some, List, [], ◌∷◌, ◌++◌, length}
use Rattle.std.specs.List.{filter}
use Rattle.loop_disk.specs.Medium.{Medium}
use Rattle.loop_desk.specs.Desk.{submitted}
use Rattle.loop_desk.specs.Seen.{DeskGoes, SeenDesk}
use Rattle.loop_pipeline.specs.Backs.{GoesAt, IsSoAt, Part, SeenBack, calls_of, is_submit, own, visited}
use Rattle.loop_pipeline.specs.Nexts.{end_past}
use Rattle.loop_pipeline.specs.Turns.{Chooses, IsBetween, TurnsTo}

-- One thing that happens: something is done with the desk at a place, the one at another place becomes the active one,
-- or a desk joins.
pub data DeskEvent (D : Type 0) : Type 0 where
  done : ℕ → Part → DeskEvent D
  turned_to : ℕ → DeskEvent D
  joined_by : SeenDesk D → DeskEvent D

-- what is done, with its place
abbrev pub part_in : {D : Type 0} → DeskEvent D → List (ℕ × Part)
part_in (done place part) = (place, part) ∷ []
part_in (turned_to place) = []
part_in (joined_by desk) = []

-- the desk that joins
abbrev pub desk_in : {D : Type 0} → DeskEvent D → List (SeenDesk D)
desk_in (done place part) = []
desk_in (turned_to place) = []
desk_in (joined_by desk) = desk ∷ []

-- the desks at one moment, the place of the active one, and one past the newest sequence
pub record DesksNow (D : Type 0) : Type 0 where
  pub desks : List (SeenDesk D)
  pub active : ℕ
  pub end : ℕ

-- one past the newest sequence, after a part: past that of a frame that the filming brought
abbrev pub end_by : Part → ℕ → ℕ
end_by (own (submitted p size result)) end = end_past p.sequence
end_by part end = end

-- the active desk takes the next frame: where it is between two blocks, a turn would stay there
abbrev pub TakesFrame : {D : Type 0} → (D → Medium) → DesksNow D → Type 0
TakesFrame medium now =
    IsSoAt now.active now.desks IsBetween
    → (locked : Bool) × TurnsTo medium now.desks now.end now.active now.active locked

-- so a back sees its desks
abbrev pub desks_now : {D A : Type 0} → SeenBack D A → DesksNow D
desks_now seen = record { desks = seen.desks; active = seen.active; end = seen.end }

-- of several desks, where the active one is between two blocks, a turn led to this one; else the active one stays
pub record IsTurnedFor {D A : Type 0} (medium : D → Medium) (old : SeenBack D A) (place : ℕ) : Type 0 where
  pub turns : 2 ≤ length old.desks → IsSoAt old.active old.desks IsBetween
      → (locked : Bool) × TurnsTo medium old.desks old.end old.active place locked
  pub stays : ((2 ≤ length old.desks) × IsSoAt old.active old.desks IsBetween → ⊥) → place ≡ old.active

-- a frame is brought to the active desk alone, and where there are several, to one that takes it; no visitor brings one
abbrev pub IsDue : {D : Type 0} → (D → Medium) → DesksNow D → ℕ → Part → Type 0
IsDue medium now place (own call) =
    is_submit call ≡ true → (place ≡ now.active) × (2 ≤ length now.desks → TakesFrame medium now)
IsDue medium now place (visited calls) = filter is_submit calls ≡ []

-- one desk goes on by a part of calls
pub record GoesOnBy {D : Type 0} (medium : D → Medium) (old new : DesksNow D) (place : ℕ) (part : Part)
    : Type 0 where
  pub goes : GoesAt place old.desks new.desks (λ d e. DeskGoes medium d e (calls_of part))
  pub active : new.active ≡ old.active
  pub end : new.end ≡ end_by part old.end
  pub due : IsDue medium old place part

-- the active desk is between two blocks, and the one at this place takes the next block
pub record TurnsOver {D : Type 0} (medium : D → Medium) (old new : DesksNow D) (place : ℕ) : Type 0 where
  pub between : IsSoAt old.active old.desks IsBetween
  pub chosen : Chooses medium old.desks old.end old.active (Some place)
  pub is : new ≡ record old { active = place }

-- from one moment to another one thing happened
abbrev pub HappensTo : {D : Type 0} → (D → Medium) → DesksNow D → DeskEvent D → DesksNow D → Type 0
HappensTo medium old (done place part) new = GoesOnBy medium old new place part
HappensTo medium old (turned_to place) new = TurnsOver medium old new place
HappensTo medium old (joined_by desk) new = new ≡ record old { desks = old.desks ++ desk ∷ [] }

-- these, one after the other
abbrev pub Happened : {D : Type 0} → (D → Medium) → DesksNow D → List (DeskEvent D) → DesksNow D → Type 0
Happened medium old [] new = new ≡ old
Happened {D} medium old (event ∷ events) new =
    (mid : DesksNow D) × HappensTo medium old event mid × Happened medium mid events new
