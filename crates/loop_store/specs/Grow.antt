-- What the store's own writes find on a disk, and what they make of it. Only the store's own code uses this.
use Rattle.std.specs.Prelude.{◌≡◌, ◌≢◌, ◌==◌, ℕ, ◌/◌, ◌%◌, ◌<◌, false, true, None, Some, Result, IfErr, OnOk, List}
use Rattle.std.specs.List.{list_any}
use Rattle.loop_disk.specs.declared.fault.DiskFault.{DiskFault}
use Rattle.loop_disk.specs.Calls.{Called, failed_call, is_write_or_sync}
use Rattle.loop_disk.specs.Medium.{IsSettled, LeavesOnly, Medium}
use Rattle.loop_record.specs.declared.geometry.Geometry.{Geometry}
use Rattle.loop_record.specs.Recording.{Recording, Step, ring_of, plain}
use Rattle.loop_record.specs.Layout.{Segment, is_too_high, segment_in, whole_frames}
use Rattle.loop_record.specs.Reading.{Holds, open_segments}
use Rattle.loop_record.specs.Parts.{parts_of}
use Rattle.loop_ring.specs.Writes.{HasNoStray}
use Rattle.loop_store.specs.Steps.{HoldsFrom}

-- segment j has the block of the next number, the frames before it, and no open frame gate after them
pub record IsNewestSegment (g : Geometry) (next j : ℕ) (image : List ℕ) : Type 0 where
  pub segment : Segment
  pub there : segment_in g image j ≡ Some segment
  pub of_next : segment.block ≡ next / g.slots
  pub whole : whole_frames g image j ≡ next % g.slots
  pub stray : HasNoStray g j image

-- segment j is closed, no segment has the block of the next number, and that block isn't too high
pub record IsFreeFor (g : Geometry) (next j : ℕ) (image : List ℕ) : Type 0 where
  pub closed : segment_in g image j ≡ None
  pub apart : list_any (λ s. s.block == (next / g.slots)) (open_segments (parts_of g image).segments) ≡ false
  pub low_enough : is_too_high g (next / g.slots) ≡ false

-- no frame gate is open after the frames of an open segment
abbrev pub HasNoneStray : Geometry → List ℕ → Type 0
HasNoneStray g image = (j : ℕ) → j < g.segments → segment_in g image j ≢ None → HasNoStray g j image

-- the next number of a recording is this one
abbrev pub HasNext : ℕ → Recording → Type 0
HasNext next r = r.next ≡ next

-- What a call does to the disk, reads included: whatever the moment of a stop, the image is one of the first; and at
-- Ok the disk is one of the second.
pub record Brings {T : Type 0} (IsLeft : List ℕ → Type 0) (IsSuch : Medium → Type 0) (old new : Medium)
    (result : Result T DiskFault) : Type 0 where
  pub moments : old.honest → LeavesOnly old new IsLeft
  pub such : old.honest → OnOk result (IsSuch new)
  pub called : Called old new (failed_call result)

-- A call made these steps of each such recording that the disk held. Whatever the moment of a stop, the image reads as
-- that recording after a prefix of the steps. At Ok the disk holds it after all of them, the image is such, and a
-- crash leaves nothing else. It fails only for a write or a sync.
pub record Makes {T : Type 0} (g : Geometry) (IsOne : Recording → Type 0) (steps : Recording → List Step)
    (IsSuch : List ℕ → Type 0) (old new : Medium) (result : Result T DiskFault) : Type 0 where
  pub moments : (r : Recording) → IsOne r → old.honest → Holds g r old.bytes
      → LeavesOnly old new (HoldsFrom g r 0 (steps r))
  pub held : (r : Recording) → IsOne r → old.honest → Holds g r old.bytes
      → OnOk result (Holds g (plain (ring_of g) r (steps r)) new.bytes)
  pub such : old.honest → OnOk result (IsSuch new.bytes)
  pub settled : old.honest → OnOk result (IsSettled new)
  pub fault : IfErr result (λ fault. is_write_or_sync fault ≡ true)
  pub called : Called old new (failed_call result)
