-- How many stores a camera has, and how large they are, where one isn't enough.
use Rattle.std.specs.Prelude.{◌≡◌, ◌≤◌, ◌<◌, ℕ, ◌+◌, ◌-◌, ◌*◌}
use Rattle.loop_station_words.specs.declared.ring.RingSize.{RingSize}
use Rattle.loop_station_words.specs.declared.sets.SetSize.{SetSize}
use Rattle.loop_station_words.specs.Rings.{IsLargestWithin, IsLeastFor, IsRing, file_size, usual_for, usual_within}

-- how many of the newest frames so many stores of a ring hold after each answered append while nothing is locked: all
-- segments of all stores but one, and one frame. It is `held` of one store. A stop within an append may leave one less.
abbrev pub held_by : ℕ → RingSize → ℕ
held_by stores ring = (stores * ring.segments - 1) * ring.slots + 1

-- a camera may have so many stores
abbrev pub IsStoreCount : ℕ → Type 0
IsStoreCount stores = (1 ≤ stores) × (stores ≤ 256)

-- so many stores of a ring hold so many frames, and fewer don't
pub record IsLeastCount (frames : ℕ) (ring : RingSize) (stores : ℕ) : Type 0 where
  pub count : IsStoreCount stores
  pub enough : frames ≤ held_by stores ring
  pub least : (fewer : ℕ) → 1 ≤ fewer → frames ≤ held_by fewer ring → stores ≤ fewer

-- a ring of 64 segments
abbrev pub long_ring : ℕ → RingSize
long_ring slots = record { segments = 64; slots = slots }

-- stores that hold so many frames of so many bytes: as few as can, and of several of 64 segments the ones with the
-- fewest slots
pub record IsLeastSetFor (frame frames : ℕ) (set : SetSize) : Type 0 where
  pub ring : IsRing set.ring
  pub count : IsStoreCount set.stores
  pub enough : frames ≤ held_by set.stores set.ring
  pub fewest : (other : SetSize) → IsRing other.ring → 1 ≤ other.stores → frames ≤ held_by other.stores other.ring
      → set.stores ≤ other.stores
  pub one : set.stores ≡ 1 → IsLeastFor (usual_for frame frames) frames set.ring
  pub several : 2 ≤ set.stores → set.ring.segments ≡ 64
  pub least : 2 ≤ set.stores → (slots : ℕ) → frames ≤ held_by set.stores (long_ring slots) → set.ring.slots ≤ slots

-- stores whose files have at most so many bytes together: no more than these bytes need, and of several of 64 segments
-- the ones with the most slots
pub record IsSetWithin (frame bytes : ℕ) (set : SetSize) : Type 0 where
  pub ring : IsRing set.ring
  pub count : IsStoreCount set.stores
  pub fits : set.stores * file_size frame set.ring ≤ bytes
  pub few : 2 ≤ set.stores → (set.stores - 1) * file_size frame (long_ring 256) < bytes
  pub many : set.stores < 256 → bytes ≤ set.stores * file_size frame (long_ring 256)
  pub one : set.stores ≡ 1 → IsLargestWithin (usual_within frame bytes) frame bytes set.ring
  pub several : 2 ≤ set.stores → set.ring.segments ≡ 64
  pub most : 2 ≤ set.stores → (slots : ℕ) → slots ≤ 256
      → set.stores * file_size frame (long_ring slots) ≤ bytes → slots ≤ set.ring.slots
