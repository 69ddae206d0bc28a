use Rattle.std.proofs.Common.{◌≡◌}
use Rattle.loop_pipeline.proofs.film.run_front.Given as goal

abbrev pub invariant-ticks : goal.invariant-ticks
invariant-ticks g l = l.front ≡ l.fn.front
