-- A write and then a sync, two of them in turn, and what calls of these change.
use Rattle.std.specs.Prelude.{◌≡◌, ◌⊎◌, ℕ, true, List, length, Result, IfErr, OnOk}
use Rattle.loop_disk.specs.declared.fault.DiskFault.{DiskFault}
use Rattle.loop_disk.specs.Calls.{Called, failed_call, is_write_or_sync}
use Rattle.loop_disk.specs.Medium.{Medium, with_bytes_at, SameOutside, TornAt, IsSettled, LeavesOnly}

-- The bytes are there and on the disk, or a call failed. At no moment is anything else touched.
pub record Stores {T : Type 0} (at : ℕ) (bytes : List ℕ) (old new : Medium) (result : Result T DiskFault) : Type 0 where
  pub done : OnOk result (new.bytes ≡ with_bytes_at at bytes old.bytes)
  pub settled : OnOk result (IsSettled new)
  pub elsewhere : SameOutside at (length bytes) old.bytes new.bytes
  pub images : (c : List ℕ) → new.may_leave c → TornAt at (length bytes) old c
  pub moments : LeavesOnly old new (TornAt at (length bytes) old)

-- the old image with any bytes in the first range, or with the first bytes there and any in the second range
abbrev pub TornInTurn : ℕ → List ℕ → ℕ → ℕ → List ℕ → List ℕ → Type 0
TornInTurn a first b n old new = SameOutside a (length first) old new ⊎ SameOutside b n (with_bytes_at a first old) new

-- The first bytes are on the disk before any of the second are.
pub record StoresInTurn {T : Type 0} (a : ℕ) (first : List ℕ) (b : ℕ) (second : List ℕ) (old new : Medium)
    (result : Result T DiskFault) : Type 0 where
  pub done : OnOk result (new.bytes ≡ with_bytes_at b second (with_bytes_at a first old.bytes))
  pub settled : OnOk result (IsSettled new)
  pub moments : LeavesOnly old new (TornInTurn a first b (length second) old.bytes)

-- What a call changed that writes and reads nothing. A stop at any moment leaves an image of the first kind. At Ok the
-- image is of the second kind, and a crash leaves nothing else. It fails only for a write or a sync.
pub record Changes {T : Type 0} (IsLeft IsSuch : List ℕ → Type 0) (old new : Medium)
    (result : Result T DiskFault) : Type 0 where
  pub moments : old.honest → LeavesOnly old new IsLeft
  pub such : old.honest → OnOk result (IsSuch new.bytes)
  pub settled : old.honest → OnOk result (IsSettled new)
  pub fault : IfErr result (λ fault. is_write_or_sync fault ≡ true)
  pub called : Called old new (failed_call result)
