-- What is written down of a disk, made on another disk.
use Rattle.std.specs.Prelude.{◌≡◌, ◌⊎◌, ℕ, List, Result, OnOk}
use Rattle.loop_disk.specs.declared.crash.DeviceCall.{DeviceCall}
use Rattle.loop_disk.specs.declared.fault.DiskFault.{DiskFault}
use Rattle.loop_disk.specs.Medium.{LeavesOnly, Meanwhile, Medium}
use Rattle.loop_disk.specs.History.{IsLeft, Moment}
use Rattle.loop_disk.specs.Crashing.{after_call}

-- A disk held what the log's disk began with, and was given its calls. At each moment, and where a call failed, a crash
-- leaves what one of the log's disk might have left. At Ok a read gives what one of that disk gives, and a crash
-- leaves what one of that disk may leave.
pub record CarriesOut {T : Type 0} (log old new : Medium) (result : Result T DiskFault) : Type 0 where
  pub moments : LeavesOnly old new (log.left_since 0)
  pub done : OnOk result (new.bytes ≡ log.bytes)
  pub images : OnOk result ((c : List ℕ) → new.may_leave c → log.may_leave c)

-- ---- for private contracts

-- a disk is as another was at a moment, or crashes leave less of it
pub record StandsAt (m : Moment) (disk : Medium) : Type 0 where
  pub bytes : disk.bytes ≡ m.bytes
  pub images : (c : List ℕ) → disk.may_leave c → IsLeft m c

-- one call was made on a disk that stood at a moment
pub record Carries {T : Type 0} (m : Moment) (call : DeviceCall (List ℕ)) (old new : Medium)
    (result : Result T DiskFault) : Type 0 where
  pub time : Meanwhile old new (λ c. IsLeft m c ⊎ IsLeft (after_call m call) c)
  pub done : OnOk result (StandsAt (after_call m call) new)
