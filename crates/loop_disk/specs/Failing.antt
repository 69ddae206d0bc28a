-- Disks that fail calls on purpose, over another disk.
use Rattle.std.specs.Prelude.{◌≡◌, ℕ, ◌-◌, ◌^◌, ◌<◌, Bool, true, false, ◌==◌, if◌then◌else◌, List, length, take, Option, Some, None, Result, IsErr, OnOk}
use Rattle.loop_disk.specs.declared.fault.Failures.{Failures}
use Rattle.loop_disk.specs.declared.fault.DiskFault.{DiskFault}
use Rattle.loop_disk.specs.Medium.{LeavesEachTorn, Medium, with_bytes_at, SameOutside, TornAt, Meanwhile, Remembers}
use Rattle.loop_disk.specs.Calls.{Called, failed_call}

-- A call that is due to fail fails and doesn't reach the inner disk. Any other is the inner disk's own, and
-- fails where that one does.
pub record FailsOrPasses {T D : Type 0} (medium : D → Medium) (due : Bool) (old new : D)
    (result : Result T DiskFault) : Type 0 where
  pub fails : due ≡ true → IsErr result
  pub untouched : due ≡ true → new ≡ old
  pub passes : due ≡ false → Called (medium old) (medium new) (failed_call result)

-- whether the call that is to fail is the next one, where so many calls come before it
abbrev pub is_due : Option ℕ → Bool
is_due None = false
is_due (Some calls) = calls == 0

-- how many calls come before it after one more, if it is still to come
abbrev pub left_after : Option ℕ → Option ℕ
left_after None = None
left_after (Some calls) = if calls == 0 then None else Some (calls - 1)

-- After a write in so many places from `at` on, done in part, the disk holds these bytes, or a call failed. All
-- of the places count as written.
pub record Tears {T : Type 0} (at n : ℕ) (bytes : List ℕ) (old new : Medium)
    (result : Result T DiskFault) : Type 0 where
  pub done : OnOk result (new.bytes ≡ bytes)
  pub elsewhere : SameOutside at n old.bytes new.bytes
  pub images : (c : List ℕ) → new.may_leave c → TornAt at n old c
  pub time : Meanwhile old new (TornAt at n old)
  pub keeps : Remembers old new

-- one more failure changes the counts
pub record IsCounting (failures : Failures) : Type 0 where
  pub reads : failures.reads < 2 ^ 64 - 1
  pub writes : failures.writes < 2 ^ 64 - 1
  pub syncs : failures.syncs < 2 ^ 64 - 1

-- A torn write: it fails. Unless the inner disk failed too, the first bytes are there and those after them are as they
-- were, and over a harsh disk a crash may leave any bytes in the whole range.
pub record IsTorn {T : Type 0} (harsh : Type 0) (at : ℕ) (bytes : List ℕ) (keep : ℕ) (old new : Medium)
    (result : Result T DiskFault) : Type 0 where
  pub fails : IsErr result
  pub kept : IsCounting old.failures → new.failures ≡ old.failures
      → new.bytes ≡ with_bytes_at at (take keep bytes) old.bytes
  pub loose : harsh → IsCounting old.failures → new.failures ≡ old.failures → LeavesEachTorn at (length bytes) old new
