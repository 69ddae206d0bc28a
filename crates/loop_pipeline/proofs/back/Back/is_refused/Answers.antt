use Rattle.std.proofs.Common.{subst}
use Rattle.loop_pipeline.specs.Backs.{SeenBack, WasRefused}
use Rattle.loop_pipeline.proofs.BackRuns.{was-refused}
use Rattle.loop_pipeline.proofs.back.Back.is_refused.Goals as goal

pub returns : goal.returns
returns g c is =
    subst (λ (b : SeenBack g.row.D.Denot g.row.A.Denot). WasRefused g.D.Disk.medium g.K.Visits.gives_up b) c.self.view_is
    (was-refused g.D.Disk.medium g.K.Visits.asks g.K.Visits.gives_up _ _ _ _ c.self.inside.from c.self.inside.from _ _
    c.self.invariant is)
