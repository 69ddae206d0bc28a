-- What a read of a held frame answers. Only the store's own code uses this.
use Rattle.std.specs.Prelude.{◌≡◌, ◌⊎◌, ◌%◌, ℕ, true, None, Result, Ok, Err, IfErr, List, slice_index_or}
use Rattle.loop_disk.specs.Calls.{Called, Stays}
use Rattle.loop_disk.specs.Medium.{Medium}
use Rattle.loop_record.specs.declared.damage.Damage.TheVariants.{SlotHead}
use Rattle.loop_record.specs.declared.frame.FrameHead.{FrameHead}
use Rattle.loop_record.specs.declared.geometry.Geometry.{Geometry}
use Rattle.loop_record.specs.Reading.{Holds}
use Rattle.loop_record.specs.Recording.{Recording, holds}
use Rattle.loop_ring.specs.Heads.{has_number, heads_of}
use Rattle.loop_ring.specs.Reads.{slot_of}
use Rattle.loop_store.specs.declared.fault.StoreFault.{StoreFault}
use Rattle.loop_store.specs.declared.fault.StoreFault.TheVariants.{Damaged}
use Rattle.loop_store.specs.Calls.{IsHeldFrame, IsPart}
use Rattle.loop_store.specs.Faults.{failed_in, is_disk}

-- there is a frame of that number, and the answer is that frame, or a call of the disk failed
abbrev pub AnswersFrame : Recording → ℕ → Result FrameHead StoreFault → List ℕ → Type 0
AnswersFrame r number (Ok h) out = IsHeldFrame r number h out
AnswersFrame r number (Err fault) out = (is_disk fault ≡ true) × (holds r number ≡ true)

-- there is a frame of that number, and the answer is these bytes of it, from byte `at` on, or a call of the disk
-- failed
abbrev pub AnswersFramePart : Recording → ℕ → ℕ → Result (Unit {0}) StoreFault → List ℕ → Type 0
AnswersFramePart r number at (Ok done) out = IsPart r number at out
AnswersFramePart r number at (Err fault) out = (is_disk fault ≡ true) × (holds r number ≡ true)

-- the pixels on the disk where a segment has the frame of a number
abbrev pub bytes_under : Geometry → List ℕ → ℕ → ℕ → List ℕ
bytes_under g image segment number = (slot_of g image segment (number % g.slots)).picture.bytes

-- What a read in a segment did: where an honest disk holds a recording, and the header of the segment has that number,
-- the answer is right for that recording. It fails for the slot's head or a call of the disk, and an honest disk stays
-- as it was.
pub record ReadsHeld {T : Type 0} (g : Geometry) (segment number : ℕ) (Answers : Recording → Type 0) (old new : Medium)
    (result : Result T StoreFault) : Type 0 where
  pub frame : (r : Recording) → old.honest → Holds g r old.bytes
      → has_number g.slots number (slice_index_or (heads_of g old.bytes) segment None) ≡ true → Answers r
  pub refusals : IfErr result (λ fault. (fault ≡ Damaged SlotHead) ⊎ (is_disk fault ≡ true))
  pub stays : old.honest → Stays old new
  pub called : Called old new (failed_in result)
