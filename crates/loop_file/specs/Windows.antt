-- What a window holds of a disk, and a disk with its own count of failures.
use Rattle.std.specs.Prelude.{◌≡◌, ◌↔◌, ℕ, ◌+◌, ◌<◌, ◌≤◌, Result, IfErr, List, length, get_or}
use Rattle.loop_disk.specs.declared.fault.DiskFault.{DiskFault}
use Rattle.loop_disk.specs.declared.fault.DiskFault.TheVariants.{Read}
use Rattle.loop_disk.specs.declared.fault.Failures.{Failures}
use Rattle.loop_disk.specs.Calls.{Stays}
use Rattle.loop_disk.specs.Medium.{LeavesEach, MayBe, Medium}

-- the first n bytes are those of the image from `at` on
abbrev pub IsCopy : ℕ → ℕ → List ℕ → List ℕ → Type 0
IsCopy at n image bytes = (i : ℕ) → i < n → get_or bytes i 0 ≡ get_or image (at + i) 0

-- The window has room for what it holds, and an image that agrees with what the disk's reads gave has that there.
pub record IsAhead (window : List ℕ) (start held : ℕ) (m : Medium) : Type 0 where
  pub few : held ≤ length window
  pub same : (image : List ℕ) → MayBe m image → IsCopy start held image window

-- a disk, and which of the calls that were made through it have failed
pub record Recounted (D : Type 0) : Type 0 where
  pub disk : D
  pub failures : Failures

-- What reads, however many, do to the disk beneath, and how they fail: an honest disk stays as it was, a harsh one may
-- leave what it might before, an image that agrees with what they gave did so before, and size and honesty stay.
pub record OnlyReads {D T : Type 0} (medium : D → Medium) (harsh : D → Type 0) (old new : D)
    (result : Result T DiskFault) : Type 0 where
  pub stays : (medium old).honest → Stays (medium old) (medium new)
  pub each : harsh old → harsh new × LeavesEach (medium old) (medium new)
  pub fault : IfErr result (λ fault. fault ≡ Read)
  pub gives : (image : List ℕ) → MayBe (medium new) image → MayBe (medium old) image
  pub size : (medium new).size ≡ (medium old).size
  pub honest : (medium old).honest ↔ (medium new).honest
