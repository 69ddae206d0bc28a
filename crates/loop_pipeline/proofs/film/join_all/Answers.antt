use Rattle.loop_pipeline.proofs.Joining.{joins-arrived, joins-then}
use Rattle.loop_pipeline.proofs.film.join_all.Goals as goal

pub desks-preserved : goal.desks-preserved
desks-preserved g c =
    joins-then _ _ _ _ c.desks.invariant (joins-arrived _ _ _ c.let_in.result c.let_in.ensures.shut c.let_in.ensures.told)
