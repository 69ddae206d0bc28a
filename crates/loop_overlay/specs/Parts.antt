-- What a buffer holds of an image, as far as private contracts speak of it.
use Rattle.std.specs.Prelude.{◌≡◌, ℕ, ◌+◌, ◌≤◌, List, length}
use Rattle.loop_disk.specs.Medium.{piece}

-- the buffer holds the image's bytes from `at` on
pub record IsBufferOf (at : ℕ) (image buf : List ℕ) : Type 0 where
  pub fits : at + length buf ≤ length image
  pub same : buf ≡ piece at (length buf) image
