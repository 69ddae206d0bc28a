-- When a back turns to another desk, and when it can turn to none.
use Rattle.std.specs.Prelude.{◌≡◌, ◌<◌, ◌⊎◌, ◌-◌, ◌%◌, ℕ, Bool, Option, Some, None, is_none, List, [], All, length, slice_get}
use Rattle.loop_disk.specs.Medium.{Medium}
use Rattle.loop_record.specs.Recording.{Recording, Ring, held_blocks, victim}
use Rattle.loop_store.specs.Seen.{StandsFor, ring_in}
use Rattle.loop_desk.specs.declared.limits.Space.{Space}
use Rattle.loop_desk.specs.Seen.{SeenDesk}
use Rattle.loop_desk.specs.Space.{TellsSpace}
use Rattle.loop_pipeline.specs.declared.next.Search.{Search}
use Rattle.loop_pipeline.specs.Backs.{IsSoAt}
use Rattle.loop_pipeline.specs.Nexts.{IsFull, TakesNext, IsSearch}

-- nothing waits at the desk, and its next number begins a block: that takes as many frames as there are slots
abbrev pub IsBetween : {D : Type 0} → SeenDesk D → Type 0
IsBetween d =
    (d.pending ≡ [])
    × (d.store.geometry.slots - d.store.next % d.store.geometry.slots ≡ d.store.geometry.slots)

-- a store tells the room that it has, of the recording that it stands for
abbrev pub TellsRoom : {D : Type 0} → (D → Medium) → SeenDesk D → Space → Type 0
TellsRoom medium d s = (r : Recording) → StandsFor medium d.store r → TellsSpace (ring_in d.store) d.store.keep r s

-- the stores at the first places, each its own
abbrev pub TellFirst : {D : Type 0} → (D → Medium) → List (SeenDesk D) → List Space → Type 0
TellFirst {D} medium desks spaces =
    (place : ℕ) (d : SeenDesk D) (s : Space) → slice_get desks place ≡ Some d → slice_get spaces place ≡ Some s
    → TellsRoom medium d s

-- each store tells it
pub record TellEach {D : Type 0} (medium : D → Medium) (desks : List (SeenDesk D)) (spaces : List Space) : Type 0 where
  pub all : length spaces ≡ length desks
  pub tells : TellFirst medium desks spaces

-- by what each store tells, this desk takes the next block, or none does; `end` is one past the newest sequence
pub record Chooses {D : Type 0} (medium : D → Medium) (desks : List (SeenDesk D)) (end active : ℕ) (next : Option ℕ)
    : Type 0 where
  pub spaces : List Space
  pub tell : TellEach medium desks spaces
  pub is : TakesNext end active spaces next

abbrev pub turned_by : Option ℕ → ℕ → ℕ
turned_by None active = active
turned_by (Some place) active = place

-- the desk that takes the next block becomes the active one; or all is locked, and the active one stays
pub record TurnsTo {D : Type 0} (medium : D → Medium) (desks : List (SeenDesk D)) (end old new : ℕ) (locked : Bool)
    : Type 0 where
  pub next : Option ℕ
  pub chosen : Chooses medium desks end old next
  pub turns : new ≡ turned_by next old
  pub told : locked ≡ is_none next

-- the active desk is between two blocks, and no store has room for a block
pub record AllLocked {D : Type 0} (medium : D → Medium) (desks : List (SeenDesk D)) (active : ℕ) : Type 0 where
  pub between : IsSoAt active desks IsBetween
  pub spaces : List Space
  pub tell : TellEach medium desks spaces
  pub full : All IsFull spaces

-- a store has room for a block: a segment holds none, or a block may go
abbrev pub RoomForBlock : Ring → ℕ → Recording → Type 0
RoomForBlock ring keep r = (length (held_blocks ring r) < ring.segments) ⊎ (v : ℕ) × (victim ring keep r ≡ Some v)

-- where the desk is between two blocks, its store has room for a block
abbrev pub MayBegin : {D : Type 0} → (D → Medium) → SeenDesk D → Type 0
MayBegin medium d = IsBetween d → (s : Space) × TellsRoom medium d s × (IsFull s → ⊥)

-- ---- of the first places (private contracts alone)

-- what the stores at the first n places have told
pub record Searches {D : Type 0} (medium : D → Medium) (desks : List (SeenDesk D)) (end active n : ℕ)
    (search : Search) : Type 0 where
  pub spaces : List Space
  pub count : length spaces ≡ n
  pub tell : TellFirst medium desks spaces
  pub is : IsSearch end active spaces search
