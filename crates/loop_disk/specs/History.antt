-- What a crash may leave of a disk in memory: its moments, and the images of each. Each write and each sync adds one
-- moment to such a disk.
use Rattle.std.specs.Prelude.{◌≡◌, ◌⊎◌, ℕ, ◌+◌, ◌≤◌, Bool, false, ◌&&◌, ◌||◌, nat_le, nat_lt, List, [], ◌∷◌, length, get_or}
use Rattle.loop_disk.specs.declared.fault.Failures.{Failures}
use Rattle.loop_disk.specs.Medium.{Medium, piece, with_bytes_at}

-- a moment between two calls
pub record Moment : Type 0 where
  -- what the last sync put on the disk, or what was there at first
  pub settled : List ℕ
  -- the ranges written since then, the newest first: the first place and the count of each
  pub loose : List (ℕ × ℕ)
  -- what a read gives
  pub bytes : List ℕ

-- a disk that holds this image, with nothing written since a sync
abbrev pub at_rest : List ℕ → Moment
at_rest image = record { settled = image; loose = []; bytes = image }

-- the moment after a write
abbrev pub after_write : ℕ → List ℕ → Moment → Moment
after_write at bytes m = record m { loose = (at, length bytes) ∷ m.loose; bytes = with_bytes_at at bytes m.bytes }

-- the moment after a sync
abbrev pub after_sync : Moment → Moment
after_sync m = at_rest m.bytes

-- this place is one of the n from `at` on
abbrev pub is_within : ℕ → ℕ → ℕ → Bool
is_within at n i = nat_le at i && nat_lt i (at + n)

-- this place lies in one of the ranges
abbrev pub is_loose : List (ℕ × ℕ) → ℕ → Bool
is_loose [] i = false
is_loose (range ∷ ranges) i = is_within range.0 range.1 i || is_loose ranges i

-- an image that a crash may leave: any byte in each place that was written since the last sync, and the present
-- one elsewhere
pub record IsLeft (m : Moment) (image : List ℕ) : Type 0 where
  pub size : length image ≡ length m.bytes
  pub kept : (i : ℕ) → is_loose m.loose i ≡ false → get_or image i 0 ≡ get_or m.bytes i 0

-- an image that a crash might have left at one of these moments, the newest first, back to moment t
abbrev pub IsLeftSince : List Moment → ℕ → List ℕ → Type 0
IsLeftSince [] t image = ⊥
IsLeftSince (m ∷ earlier) t image = ((t ≤ length earlier) × IsLeft m image) ⊎ IsLeftSince earlier t image

-- the medium of an honest disk with these failures, at this moment, after those
abbrev pub medium_of : Failures → Moment → List Moment → Medium
medium_of failures now earlier = record {
  size = length now.bytes;
  honest = Unit {0};
  failures = failures;
  bytes = now.bytes;
  agrees = λ image. image ≡ now.bytes;
  may_leave = IsLeft now;
  moment = length earlier;
  left_since = IsLeftSince (now ∷ earlier);
}

-- the image has what reads gave: the place of each, and its bytes
abbrev pub HasAll : List ℕ → List (ℕ × List ℕ) → Type 0
HasAll image [] = Unit {0}
HasAll image (read ∷ reads) = (read.1 ≡ piece read.0 (length read.1) image) × HasAll image reads

-- the medium of a disk of which only its size, its failures and what its reads gave are known
abbrev pub unknown : ℕ → Failures → List (ℕ × List ℕ) → Medium
unknown size failures given = record (medium_of failures (at_rest []) []) {
  size = size;
  honest = ⊥;
  agrees = λ image. HasAll image given;
}
