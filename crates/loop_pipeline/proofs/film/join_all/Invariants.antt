use Rattle.std.proofs.Common.{◌≡◌, false}
use Rattle.loop_pipeline.specs.Backs.{Joins}
use Rattle.loop_pipeline.proofs.film.join_all.Given as goal

abbrev pub invariant-desks : goal.invariant-desks
invariant-desks g l = Joins (l.fn.door ≡ false) l.fn.back l.back
