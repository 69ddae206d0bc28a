use Rattle.std.proofs.Common.{◌≡◌}
use Rattle.loop_pipeline.proofs.film.give_memory.Given as goal

abbrev pub invariant-rows : goal.invariant-rows
invariant-rows g l = l.back ≡ l.fn.back
