-- What a read answers after a crash.
use Rattle.std.specs.Prelude.{◌≡◌, ◌⊎◌, ℕ, true, Result, Ok, Err, List}
use Rattle.loop_record.specs.declared.frame.FrameHead.{FrameHead}
use Rattle.loop_record.specs.Recording.{Recording}
use Rattle.loop_store.specs.declared.fault.StoreFault.{StoreFault}
use Rattle.loop_store.specs.declared.fault.StoreFault.TheVariants.{NoMemory}
use Rattle.loop_store.specs.Calls.{IsHeldFrame}
use Rattle.loop_store.specs.Faults.{is_disk}

-- the answer is the frame of that number, or memory was refused, or a call of the disk failed
abbrev pub ReadsFrame : Recording → ℕ → Result FrameHead StoreFault → List ℕ → Type 0
ReadsFrame r number (Ok h) out = IsHeldFrame r number h out
ReadsFrame r number (Err fault) out = (fault ≡ NoMemory) ⊎ (is_disk fault ≡ true)
