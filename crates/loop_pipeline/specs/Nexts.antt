-- Which desk takes the next block.
use Rattle.std.specs.Prelude.{◌≡◌, ◌<◌, ◌≤◌, ◌+◌, ◌%◌, ◌^◌, ◌⊎◌, ◌↔◌, ℕ, Bool, true, false, if◌then◌else◌, Option, Some, None, List, All, length, slice_get}
use Rattle.std.specs.List.{position}
use Rattle.loop_record.specs.Counts.{cyclic_place}
use Rattle.loop_record.specs.Recording.{IsWellFormed, MayGo, Picture, Recording, Ring, block, frame_under}
use Rattle.loop_desk.specs.declared.limits.Space.{Space}
use Rattle.loop_desk.specs.Space.{TellsSpace}
use Rattle.loop_pipeline.specs.declared.next.Search.{Search}

-- one past a sequence, which goes round
abbrev pub end_past : ℕ → ℕ
end_past sequence = (sequence + 1) % 2 ^ 32

abbrev pub has_free : Space → Bool
has_free s = s.free

-- no block may go
abbrev pub HasNone : Space → Type 0
HasNone s = s.oldest ≡ None

-- no segment is free, and no block may go
abbrev pub IsFull : Space → Type 0
IsFull s = (s.free ≡ false) × (s.oldest ≡ None)

-- the first frame of the block that may go at a place is no newer than any other's, and older than that of any place
-- before
pub record IsOldest (end : ℕ) (spaces : List Space) (place : ℕ) : Type 0 where
  pub space : Space
  pub at : slice_get spaces place ≡ Some space
  pub sequence : ℕ
  pub is : space.oldest ≡ Some sequence
  pub least : (i : ℕ) (s : Space) (t : ℕ) → slice_get spaces i ≡ Some s → s.oldest ≡ Some t
      → cyclic_place end sequence ≤ cyclic_place end t
  pub first : (i : ℕ) (s : Space) (t : ℕ) → i < place → slice_get spaces i ≡ Some s → s.oldest ≡ Some t
      → cyclic_place end sequence < cyclic_place end t

-- a place with a segment that holds no block
abbrev pub IsFreeAt : List Space → ℕ → Type 0
IsFreeAt spaces place = (s : Space) × (slice_get spaces place ≡ Some s) × (s.free ≡ true)

-- where no segment of the active desk is free: the first that has one, else the oldest block that may go
abbrev pub IsElsewhere : ℕ → List Space → Option ℕ → Option ℕ → Type 0
IsElsewhere end spaces (Some free) result = result ≡ Some free
IsElsewhere end spaces None None = All HasNone spaces
IsElsewhere end spaces None (Some place) = IsOldest end spaces place

-- `end` is one past the newest sequence
abbrev pub TakesNext : ℕ → ℕ → List Space → Option ℕ → Type 0
TakesNext end active spaces result =
    IsFreeAt spaces active × (result ≡ Some active)
    ⊎ (IsFreeAt spaces active → ⊥) × IsElsewhere end spaces (position has_free spaces) result

-- ---- what goes is the oldest

-- in the order that ends before this sequence, those of the frames rise with their numbers
abbrev pub SequencesRise : ℕ → Recording → Type 0
SequencesRise end r =
    (m n : ℕ) (p q : Picture) → frame_under r.frames m ≡ Some p → frame_under r.frames n ≡ Some q → m ≤ n
    → cyclic_place end p.sequence ≤ cyclic_place end q.sequence

-- at whichever place, no held frame of a block that may go is older than the first of the oldest block
abbrev pub OldestGoes : Type 0
OldestGoes =
    (end : ℕ) (spaces : List Space) (place : ℕ) (oldest : IsOldest end spaces place) (i : ℕ) (s : Space)
    → slice_get spaces i ≡ Some s → (ring : Ring) (keep : ℕ) (r : Recording) → 1 ≤ ring.slots → IsWellFormed r
    → SequencesRise end r → TellsSpace ring keep r s → (b : ℕ) → MayGo ring keep r b → (n : ℕ) (p : Picture)
    → frame_under r.frames n ≡ Some p → block ring n ≡ b
    → cyclic_place end oldest.sequence ≤ cyclic_place end p.sequence

-- ---- of the first places (private contracts alone)

-- of the first n places this one has the oldest
pub record IsBestAt (end : ℕ) (spaces : List Space) (n place sequence : ℕ) : Type 0 where
  pub within : place < n
  pub space : Space
  pub at : slice_get spaces place ≡ Some space
  pub is : space.oldest ≡ Some sequence
  pub least : (i : ℕ) (s : Space) (t : ℕ) → i < n → slice_get spaces i ≡ Some s → s.oldest ≡ Some t
      → cyclic_place end sequence ≤ cyclic_place end t
  pub first : (i : ℕ) (s : Space) (t : ℕ) → i < place → slice_get spaces i ≡ Some s → s.oldest ≡ Some t
      → cyclic_place end sequence < cyclic_place end t

abbrev pub IsBest : ℕ → List Space → ℕ → Option (ℕ × ℕ) → Type 0
IsBest end spaces n None = (i : ℕ) (s : Space) → i < n → slice_get spaces i ≡ Some s → s.oldest ≡ None
IsBest end spaces n (Some best) = IsBestAt end spaces n best.0 best.1

-- the first that passes, where one more comes after those that were looked at
abbrev pub with_last : Option ℕ → Bool → ℕ → Option ℕ
with_last (Some found) passes place = Some found
with_last None passes place = if passes then Some place else None

-- what the first stores have told is of these spaces
pub record IsSearch (end active : ℕ) (spaces : List Space) (search : Search) : Type 0 where
  pub here : (search.here ≡ true) ↔ IsFreeAt spaces active
  pub free : search.free ≡ position has_free spaces
  pub oldest : IsBest end spaces (length spaces) search.oldest
