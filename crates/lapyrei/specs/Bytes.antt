-- A log as bytes.
use Rattle.std.specs.Prelude.{ℕ, ◌-◌, ◌^◌, List, [], ◌++◌, length, flat_map}
use Rattle.byteorder.specs.Endian.{little_bytes}
use Rattle.loop_disk.specs.declared.crash.DeviceCall.{DeviceCall}
use Rattle.loop_disk.specs.declared.crash.DeviceCall.TheVariants as call

-- an entry: a place, a count, and as many bytes
abbrev pub log_entry : ℕ → List ℕ → List ℕ
log_entry at bytes = little_bytes 8 at ++ little_bytes 8 (length bytes) ++ bytes

-- a call as an entry: a write's place and bytes; for a sync the place 2^64 - 1, and no bytes; nothing for a read
abbrev pub call_bytes : DeviceCall (List ℕ) → List ℕ
call_bytes call.Read = []
call_bytes (call.Write at bytes) = log_entry at bytes
call_bytes call.Sync = log_entry (2 ^ 64 - 1) []

-- the entries of calls, the oldest first
abbrev pub log_bytes : List (DeviceCall (List ℕ)) → List ℕ
log_bytes calls = flat_map call_bytes calls
