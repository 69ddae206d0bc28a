-- A disk in memory that remembers its calls, and the disk that it returns as the one after a crash.
use Rattle.std.specs.Prelude.{◌≡◌, ℕ, ◌+◌, ◌*◌, ◌%◌, ◌<◌, ◌≤◌, true, List, [], ◌∷◌, length, fold, get_or}
use Rattle.loop_disk.specs.declared.fault.Failures.{Failures}
use Rattle.loop_disk.specs.declared.crash.DeviceCall.{DeviceCall}
use Rattle.loop_disk.specs.declared.crash.DeviceCall.TheVariants as call
use Rattle.loop_disk.specs.declared.crash.Spoil.{Spoil}
use Rattle.loop_disk.specs.declared.crash.Spoil.TheVariants as spoil
use Rattle.loop_disk.specs.Medium.{Medium}
use Rattle.loop_disk.specs.History.{Moment, at_rest, after_write, after_sync, is_loose, IsLeft, medium_of}

-- what the disk held at first, its calls since then, the newest last, and how many more have failed
pub record Tape : Type 0 where
  pub start : List ℕ
  pub calls : List (DeviceCall (List ℕ))
  pub failures : Failures

-- the call with the bytes themselves
abbrev pub call_of : {V : Type 0} → (V → List ℕ) → DeviceCall V → DeviceCall (List ℕ)
call_of bytes call.Read = call.Read
call_of bytes (call.Write at v) = call.Write at (bytes v)
call_of bytes call.Sync = call.Sync

-- the moment after a call
abbrev pub after_call : Moment → DeviceCall (List ℕ) → Moment
after_call m call.Read = m
after_call m (call.Write at bytes) = after_write at bytes m
after_call m call.Sync = after_sync m

-- the moment after some calls
abbrev pub moment_after : List ℕ → List (DeviceCall (List ℕ)) → Moment
moment_after start calls = fold after_call (at_rest start) calls

-- the moments before a call and those before the first of some calls, the newest first
abbrev pub moments_from : Moment → List Moment → List (DeviceCall (List ℕ)) → List Moment
moments_from m earlier [] = earlier
moments_from m earlier (c ∷ calls) = moments_from (after_call m c) (m ∷ earlier) calls

-- the medium of such a disk: each call adds a moment, a read too
abbrev pub medium_after : Tape → Medium
medium_after tape =
    medium_of tape.failures (moment_after tape.start tape.calls) (moments_from (at_rest tape.start) [] tape.calls)

-- the call is within a disk of this size
abbrev pub IsWithin : ℕ → DeviceCall (List ℕ) → Type 0
IsWithin size call.Read = Unit {0}
IsWithin size (call.Write at bytes) = at + length bytes ≤ size
IsWithin size call.Sync = Unit {0}

-- what is left of a byte that was written since the last sync: i is its place, `settled` the byte at that sync,
-- and `present` the present one
abbrev pub spoiled_byte : Spoil → ℕ → ℕ → ℕ → ℕ
spoiled_byte spoil.Keep i settled present = present
spoiled_byte spoil.Old i settled present = settled
spoiled_byte spoil.Zero i settled present = 0
spoiled_byte spoil.Ones i settled present = 255
spoiled_byte spoil.Gate i settled present = 165
spoiled_byte (spoil.Mix m) i settled present = (167 * i + m) % 256

-- the image that a crash leaves at this moment, where it spoils in this way what was written since the last sync
pub record IsSpoiled (s : Spoil) (m : Moment) (image : List ℕ) : Type 0 where
  pub left : IsLeft m image
  pub loose : (i : ℕ) → i < length image → is_loose m.loose i ≡ true
      → get_or image i 0 ≡ spoiled_byte s i (get_or m.settled i 0) (get_or m.bytes i 0)
