use Rattle.std.proofs.Common.{◌≡◌, false}
use Rattle.loop_pipeline.specs.Backs.{Joins}
use Rattle.loop_pipeline.proofs.film.film_back.Given as goal

abbrev pub invariant-turns : goal.invariant-turns
invariant-turns g l = Joins (l.fn.door ≡ false) l.fn.back l.back
