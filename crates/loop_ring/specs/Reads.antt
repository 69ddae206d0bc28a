-- What a read of a slot answers.
use Rattle.std.specs.Prelude.{◌≡◌, ℕ, List, length, Option, None, Some, Result, Ok, Err, OnOk}
use Rattle.loop_disk.specs.declared.fault.DiskFault.{DiskFault}
use Rattle.loop_disk.specs.Medium.{piece}
use Rattle.loop_record.specs.declared.damage.Damage.{Damage}
use Rattle.loop_record.specs.declared.frame.FrameHead.{FrameHead}
use Rattle.loop_record.specs.declared.geometry.Geometry.{Geometry}
use Rattle.loop_record.specs.Geometry.{frame_bytes, slot_at}
use Rattle.loop_record.specs.Layout.{Slot, slot_head, slot_in}
use Rattle.loop_ring.specs.declared.fault.SlotFault.{SlotFault}
use Rattle.loop_ring.specs.declared.fault.SlotFault.TheVariants.{Disk, Damaged}

-- the contents of slot i of segment j
abbrev pub slot_of : Geometry → List ℕ → ℕ → ℕ → Slot
slot_of g image j i = slot_in (frame_bytes g) image (slot_at g j i)

-- the answer is what the slot's head says, or that a call of the disk failed
abbrev pub AnswersHead : Result FrameHead Damage → Result FrameHead SlotFault → Type 0
AnswersHead said (Ok head) = said ≡ Ok head
AnswersHead said (Err (Damaged damage)) = said ≡ Err damage
AnswersHead said (Err (Disk fault)) = Unit {0}

-- the same for frame `number` of n bytes; where the answer is a head, the pixels were read
abbrev pub AnswersSlot : ℕ → ℕ → Slot → Result FrameHead SlotFault → List ℕ → Type 0
AnswersSlot n number slot result out =
    AnswersHead (slot_head n number slot) result × OnOk result (out ≡ slot.picture.bytes)

-- the same for such a frame; where the answer is a head, its pixels from byte `at` on were read, as many as `out` has
abbrev pub AnswersPart : ℕ → ℕ → Slot → ℕ → Result FrameHead SlotFault → List ℕ → Type 0
AnswersPart n number slot at result out =
    AnswersHead (slot_head n number slot) result × OnOk result (out ≡ piece at (length out) slot.picture.bytes)

-- the call of the disk that failed, if the answer says so
abbrev pub failed_read : {T : Type 0} → Result T SlotFault → Option DiskFault
failed_read (Ok x) = None
failed_read (Err (Damaged damage)) = None
failed_read (Err (Disk fault)) = Some fault
