use Rattle.std.proofs.Common.{◌≡◌}
use Rattle.loop_pipeline.proofs.film.take_all.Given as goal

abbrev pub invariant-frames : goal.invariant-frames
invariant-frames g l = l.front ≡ l.fn.front
