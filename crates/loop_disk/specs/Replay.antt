-- Calls that are recorded and made again, for private contracts and a crash disk's invariant.
use Rattle.std.specs.Prelude.{◌≡◌, ℕ, ◌+◌, ◌<◌, false, List, length, get_or}
use Rattle.std.specs.List.{All}
use Rattle.loop_disk.specs.declared.crash.DeviceCall.{DeviceCall}
use Rattle.loop_disk.specs.declared.crash.Spoil.{Spoil}
use Rattle.loop_disk.specs.Medium.{SameOutside}
use Rattle.loop_disk.specs.History.{Moment, is_loose}
use Rattle.loop_disk.specs.Crashing.{moment_after, IsWithin, IsSpoiled, spoiled_byte}

-- a disk that began with `start` holds `bytes` after these calls, each within its size
pub record IsRecorded (start : List ℕ) (calls : List (DeviceCall (List ℕ))) (bytes : List ℕ) : Type 0 where
  pub whole : bytes ≡ (moment_after start calls).bytes
  pub size : length bytes ≡ length start
  pub within : All (IsWithin (length start)) calls

-- The bytes are those of the moment, the image is what a crash leaves there, and what wasn't written since the
-- last sync is as it was at that.
pub record IsReplayed (s : Spoil) (m : Moment) (bytes image : List ℕ) : Type 0 where
  pub whole : bytes ≡ m.bytes
  pub spoilt : IsSpoiled s m image
  pub size : length m.settled ≡ length m.bytes
  pub steady : (i : ℕ) → is_loose m.loose i ≡ false → get_or m.bytes i 0 ≡ get_or m.settled i 0

-- the places of these bytes, from `at` on, hold what a crash leaves of them
pub record PutsSpoiled (s : Spoil) (at : ℕ) (bytes old new : List ℕ) : Type 0 where
  pub outside : SameOutside at (length bytes) old new
  pub there : (i : ℕ) → i < length bytes
      → get_or new (at + i) 0 ≡ spoiled_byte s (at + i) (get_or old (at + i) 0) (get_or bytes i 0)
