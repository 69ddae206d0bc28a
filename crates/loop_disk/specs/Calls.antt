-- What the calls of an honest disk do, and what each call of any disk keeps.
use Rattle.std.specs.Prelude.{◌≡◌, ◌↔◌, ℕ, ◌+◌, ◌-◌, ◌^◌, Bool, true, false, min, max, List, length, Option, Some, None, Result, Ok, Err, OnOk}
use Rattle.loop_disk.specs.declared.fault.Failures.{Failures}
use Rattle.loop_disk.specs.declared.fault.DiskFault.{DiskFault}
use Rattle.loop_disk.specs.declared.fault.DiskFault.TheVariants.{Read, Write, Sync}
use Rattle.loop_disk.specs.Medium.{Medium, with_bytes_at, SameOutside, TornAt, Meanwhile, Remembers}

-- a count after one more; it stops at the greatest u64
abbrev pub one_more : ℕ → ℕ
one_more count = max count (min (count + 1) (2 ^ 64 - 1))

-- no call has failed
abbrev pub no_failures : Failures
no_failures = record { reads = 0; writes = 0; syncs = 0 }

-- the failures with this one, if there is one
abbrev pub with_failed : Option DiskFault → Failures → Failures
with_failed None failures = failures
with_failed (Some Read) failures = record failures { reads = one_more failures.reads }
with_failed (Some Write) failures = record failures { writes = one_more failures.writes }
with_failed (Some Sync) failures = record failures { syncs = one_more failures.syncs }

-- the call of the disk that failed, if the answer is that one did
abbrev pub failed_call : {T : Type 0} → Result T DiskFault → Option DiskFault
failed_call (Ok x) = None
failed_call (Err fault) = Some fault

-- it is a write or a sync
abbrev pub is_write_or_sync : DiskFault → Bool
is_write_or_sync Read = false
is_write_or_sync Write = true
is_write_or_sync Sync = true

-- What each call keeps, and each run of calls in which this one failed, or none did. It holds of every disk,
-- honest or not.
pub record Called (old new : Medium) (failed : Option DiskFault) : Type 0 where
  pub size : new.size ≡ old.size
  pub honest : old.honest ↔ new.honest
  pub failures : new.failures ≡ with_failed failed old.failures

-- the disk is as it was, though time passed
pub record Stays (old new : Medium) : Type 0 where
  pub bytes : new.bytes ≡ old.bytes
  pub images : (c : List ℕ) → new.may_leave c → old.may_leave c
  pub time : Meanwhile old new old.may_leave
  pub keeps : Remembers old new

-- A write, done or failed. The range may hold anything after a crash, and after a failure.
pub record Writes {T : Type 0} (at : ℕ) (bytes : List ℕ) (old new : Medium) (result : Result T DiskFault) : Type 0 where
  pub done : OnOk result (new.bytes ≡ with_bytes_at at bytes old.bytes)
  pub elsewhere : SameOutside at (length bytes) old.bytes new.bytes
  pub images : (c : List ℕ) → new.may_leave c → TornAt at (length bytes) old c
  pub time : Meanwhile old new (TornAt at (length bytes) old)
  pub keeps : Remembers old new

-- A sync. One that fails settles nothing.
pub record Syncs {T : Type 0} (old new : Medium) (result : Result T DiskFault) : Type 0 where
  pub stays : Stays old new
  pub settled : OnOk result ((c : List ℕ) → new.may_leave c → c ≡ old.bytes)
