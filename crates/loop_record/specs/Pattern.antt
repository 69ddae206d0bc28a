-- A test pattern: a frame's bytes show which frame it is.
use Rattle.std.specs.Prelude.{ℕ, ◌+◌, ◌%◌, List, map}
use Rattle.std.specs.List.{range_with_len}

-- the first bytes of frame n: byte i is n + i, modulo 256
abbrev pub pattern_bytes : ℕ → ℕ → List ℕ
pattern_bytes n size = map (λ i. (n + i) % 256) (range_with_len 0 size)
