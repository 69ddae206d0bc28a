-- What the writes to one segment leave of an image.
use Rattle.std.specs.Prelude.{◌≡◌, ◌⊎◌, ℕ, ◌+◌, ◌*◌, ◌<◌, ◌≤◌, false, List, [], ◌∷◌, ◌++◌, length, take, map, Option, Some, None, Result, OnOk}
use Rattle.std.specs.List.{range_with_len}
use Rattle.loop_disk.specs.declared.fault.DiskFault.{DiskFault}
use Rattle.loop_disk.specs.Calls.{Called, Stays, failed_call}
use Rattle.loop_disk.specs.Medium.{IsSettled, LeavesOnly, Medium}
use Rattle.loop_record.specs.declared.geometry.Geometry.{Geometry}
use Rattle.loop_record.specs.Change.{ShowsSegment}
use Rattle.loop_record.specs.Geometry.{frame_bytes, gate_at}
use Rattle.loop_record.specs.Layout.{Slot, Segment, is_open, slot_in, whole_frames, segment_in}
use Rattle.loop_record.specs.Recording.{Picture}

-- the old image, where segment j is as it was, or this one
abbrev pub ShowsOrNot : Geometry → ℕ → Option Segment → List ℕ → List ℕ → Type 0
ShowsOrNot g j segment old new = ShowsSegment g j (segment_in g old j) old new ⊎ ShowsSegment g j segment old new

-- the slots of frames of n bytes, numbered from a number on
abbrev pub slots_of : ℕ → ℕ → List Picture → List Slot
slots_of n number [] = []
slots_of n number (p ∷ ps) = record { number = number; size = n; picture = p } ∷ slots_of n (number + 1) ps

-- an open segment with more slots after its own; a closed one stays closed
abbrev pub with_more : List Slot → Option Segment → Option Segment
with_more more None = None
with_more more (Some s) = Some (record s { slots = s.slots ++ more })

-- the old image, except that segment j has the slots of these frames after its own, numbered from a number on
abbrev pub ShowsFrames : Geometry → ℕ → ℕ → List Picture → List ℕ → List ℕ → Type 0
ShowsFrames g j number frames old new =
    ShowsSegment g j (with_more (slots_of (frame_bytes g) number frames) (segment_in g old j)) old new

-- the same with a prefix of these frames
abbrev pub ShowsBeginning : Geometry → ℕ → ℕ → List Picture → List ℕ → List ℕ → Type 0
ShowsBeginning g j number frames old new =
    (k : ℕ) × ((k ≤ length frames) × ShowsFrames g j number (take k frames) old new)

-- the only open frame gates of segment j are those of its whole frames
abbrev pub HasNoStray : Geometry → ℕ → List ℕ → Type 0
HasNoStray g j image = (i : ℕ) → whole_frames g image j ≤ i → i < g.slots → is_open image (gate_at g j i) ≡ false

-- the gates in the n places from a place on are closed
abbrev pub AreClosed : ℕ → ℕ → List ℕ → Type 0
AreClosed at n image = (i : ℕ) → at ≤ i → i < at + n → is_open image i ≡ false

-- What was changed by closing gates that may be open. Whatever the moment of a stop, the image is one of the first. At
-- Ok no gate is open, and a crash leaves nothing else. Where none was open, the disk stays. It reads first, so a read
-- may fail too.
pub record Cleans {T : Type 0} (IsLeft IsClean : List ℕ → Type 0) (old new : Medium)
    (result : Result T DiskFault) : Type 0 where
  pub moments : old.honest → LeavesOnly old new IsLeft
  pub such : old.honest → OnOk result (IsLeft new.bytes × IsClean new.bytes)
  pub settled : old.honest → OnOk result (IsSettled new)
  pub quiet : old.honest → IsClean old.bytes → Stays old new
  pub called : Called old new (failed_call result)

-- the first k slots in some bytes, with frames of n bytes
abbrev pub slots_in : ℕ → List ℕ → ℕ → List Slot
slots_in n bytes k = map (λ i. slot_in n bytes (i * (32 + n))) (range_with_len 0 k)
