use Rattle.std.proofs.Common.{◌≡◌, ◌<◌, ◌+◌, ◌%◌, ℕ, get_or}
use Rattle.loop_record.proofs.pattern.fill_pattern.Given as goal

abbrev pub invariant-loop-byte : goal.invariant-loop-byte
invariant-loop-byte l =
    (l.value ≡ (l.n + l.byte-index) % 256)
    × ((k : ℕ) → k < l.byte-index → get_or l.byte-items k 0 ≡ (l.n + k) % 256)
