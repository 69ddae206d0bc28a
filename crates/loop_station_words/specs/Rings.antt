-- How the segments and slots of a store are chosen.
use Rattle.std.specs.Prelude.{◌≡◌, ◌≤◌, ◌⊎◌, ℕ, ◌+◌, ◌-◌, ◌*◌, Bool, ◌&&◌, nat_le, nat_lt, if◌then◌else◌}
use Rattle.loop_station_words.specs.declared.ring.RingSize.{RingSize}

-- how many of the newest frames a ring holds after each answered append while nothing is locked: all segments but one,
-- and one frame. A stop within an append may leave one less: a segment is emptied before the frame is stored.
abbrev pub held : RingSize → ℕ
held ring = (ring.segments - 1) * ring.slots + 1

-- the size of its store in bytes, for frames of so many bytes
abbrev pub file_size : ℕ → RingSize → ℕ
file_size frame ring = 2560 + ring.segments * (512 + ring.slots * (32 + frame))

-- a store may have it
pub record IsRing (ring : RingSize) : Type 0 where
  pub two : 2 ≤ ring.segments
  pub segments : ring.segments ≤ 64
  pub one : 1 ≤ ring.slots
  pub slots : ring.slots ≤ 256

-- The usual slots of a segment. Small frames have more: 256 where they have at most 16,384 bytes, 128 where they have
-- at most 65,536; but only where a ring of so many slots has 16 segments, which the two answers say of 256 and of 128.
abbrev pub usual_slots : ℕ → Bool → Bool → ℕ
usual_slots frame with_256 with_128 =
    if nat_le frame 16384 && with_256 then 256 else if nat_le frame 65536 && with_128 then 128 else 64

-- 15 segments of so many slots don't hold so many frames
abbrev pub needs_16 : ℕ → ℕ → Bool
needs_16 frames slots = nat_lt (held (record { segments = 15; slots = slots })) frames

-- the usual slots where so many frames are to be held
abbrev pub usual_for : ℕ → ℕ → ℕ
usual_for frame frames = usual_slots frame (needs_16 frames 256) (needs_16 frames 128)

-- 16 segments of so many slots fit into so many bytes
abbrev pub has_16 : ℕ → ℕ → ℕ → Bool
has_16 frame bytes slots = nat_le (file_size frame (record { segments = 16; slots = slots })) bytes

-- the usual slots where so many bytes are there
abbrev pub usual_within : ℕ → ℕ → ℕ
usual_within frame bytes = usual_slots frame (has_16 frame bytes 256) (has_16 frame bytes 128)

-- a ring that may be chosen: it has fewer slots than usual only with two segments, and more only with 64 segments
pub record IsPreferred (usual : ℕ) (ring : RingSize) : Type 0 where
  pub allowed : IsRing ring
  pub few : (usual ≤ ring.slots) ⊎ (ring.segments ≡ 2)
  pub many : (ring.slots ≤ usual) ⊎ (ring.segments ≡ 64)

-- it holds so many frames, and no other that may be chosen, of the usual slots or more, does so with fewer segments or
-- slots
pub record IsLeastFor (usual frames : ℕ) (ring : RingSize) : Type 0 where
  pub preferred : IsPreferred usual ring
  pub enough : frames ≤ held ring
  pub large : usual ≤ ring.slots
  pub least : (other : RingSize) → IsPreferred usual other → usual ≤ other.slots → frames ≤ held other
      → (ring.segments ≤ other.segments) × (ring.slots ≤ other.slots)

-- its store has at most so many bytes, and no other ring that may be chosen and fits has more segments or slots
pub record IsLargestWithin (usual frame bytes : ℕ) (ring : RingSize) : Type 0 where
  pub preferred : IsPreferred usual ring
  pub fits : file_size frame ring ≤ bytes
  pub largest : (other : RingSize) → IsPreferred usual other → file_size frame other ≤ bytes
      → (other.segments ≤ ring.segments) × (other.slots ≤ ring.slots)
