-- Writes that lie over an image, and the disk that shows them over another.
use Rattle.std.specs.Prelude.{◌≡◌, ℕ, ◌≤◌, List, fold, length, take}
use Rattle.loop_disk.specs.declared.fault.Failures.{Failures}
use Rattle.loop_disk.specs.Medium.{MayBe, Medium, with_bytes_at}

-- a write that lies over an image: where it begins, and its bytes
pub record LaidWrite : Type 0 where
  pub at : ℕ
  pub bytes : List ℕ

-- the image with a write over it, and no longer than it was
abbrev pub laid_on : List ℕ → LaidWrite → List ℕ
laid_on image w = take (length image) (with_bytes_at w.at w.bytes image)

-- the image with writes over it, the first one first
abbrev pub laid : List LaidWrite → List ℕ → List ℕ
laid writes image = fold laid_on image writes

-- an image that a read gave once the first t writes were made, or after a later one
abbrev pub ShownSince : List LaidWrite → List ℕ → ℕ → List ℕ → Type 0
ShownSince writes image t c = (k : ℕ) × (t ≤ k) × (k ≤ length writes) × (c ≡ laid (take k writes) image)

-- given what the reads of the disk beneath gave, this may be what shows with the writes over it
pub record MayShow (m : Medium) (writes : List LaidWrite) (image : List ℕ) : Type 0 where
  pub base : List ℕ
  pub may : MayBe m base
  pub is : image ≡ laid writes base

-- a disk, the writes over it, and which of the calls that were made through the overlay have failed
pub record Layered (D : Type 0) : Type 0 where
  pub disk : D
  pub writes : List LaidWrite
  pub failures : Failures

-- The disk that shows these writes over another. A crash leaves what a read gives.
abbrev pub overlaid : Medium → List LaidWrite → Failures → Medium
overlaid m writes failures = record m {
  failures = failures;
  bytes = laid writes m.bytes;
  agrees = MayShow m writes;
  may_leave = λ c. c ≡ laid writes m.bytes;
  moment = length writes;
  left_since = ShownSince writes m.bytes;
}

-- the same of a value of an overlay, by what the disk beneath is
abbrev pub above : {D : Type 0} → (D → Medium) → Layered D → Medium
above medium overlay = overlaid (medium overlay.disk) overlay.writes overlay.failures
