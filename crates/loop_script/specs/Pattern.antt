-- The frames of the pattern.
use Rattle.std.specs.Prelude.{ℕ, ◌-◌, ◌*◌, ◌/◌, ◌%◌, ◌^◌, min}
use Rattle.loop_record.specs.declared.geometry.Geometry.{Geometry}
use Rattle.loop_record.specs.Geometry.{frame_bytes}
use Rattle.loop_record.specs.Pattern.{pattern_bytes}
use Rattle.loop_record.specs.Recording.{Picture}

-- when frame n is taken, in microseconds, at num / den frames a second: rounded down, and at most 2^64 - 1
abbrev pub timestamp_of : ℕ → ℕ → ℕ → ℕ
timestamp_of n num den = min (n * 1000000 * den / num) (2 ^ 64 - 1)

-- frame n of the pattern in a store of this geometry; its flags are those of a monotonic timestamp
abbrev pub pattern_picture : Geometry → ℕ → Picture
pattern_picture g n = record {
  sequence = n % 2 ^ 32;
  flags = 8192;
  timestamp = timestamp_of n g.rate_num g.rate_den;
  bytes = pattern_bytes n (frame_bytes g);
}
