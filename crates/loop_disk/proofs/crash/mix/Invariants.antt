use Rattle.std.proofs.Common.{◌≡◌, ◌<◌, ◌+◌, ◌*◌, ◌%◌, ℕ, length, get_or}
use Rattle.loop_disk.proofs.crash.mix.Given as goal

abbrev pub invariant-loop-i : goal.invariant-loop-i
invariant-loop-i l = record {
  size : length l.range ≡ length l.fn.range;
  done : (j : ℕ) → j < l.i → get_or l.range j 0 ≡ (167 * (l.start + j) + l.m) % 256;
}
