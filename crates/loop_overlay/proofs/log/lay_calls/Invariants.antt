use Rattle.std.proofs.Common.{ℕ, List, ◌≡◌, length, map, take}
use Rattle.std.specs.List.{All}
use Rattle.loop_disk.specs.Crashing.{IsWithin, call_of, moment_after}
use Rattle.loop_overlay.specs.Parts.{IsBufferOf}
use Rattle.loop_overlay.proofs.log.lay_calls.Given as goal

abbrev pub invariant-loop-call : goal.invariant-loop-call
invariant-loop-call g l = record {
  laid : (start : List ℕ) → All (IsWithin (length start)) (map (call_of (λ v. v.items)) l.calls)
      → IsBufferOf l.at start l.fn.buf
      → IsBufferOf l.at (moment_after start (map (call_of (λ v. v.items)) (take l.call-index l.calls))).bytes l.buf;
  size : length l.buf ≡ length l.fn.buf;
}
