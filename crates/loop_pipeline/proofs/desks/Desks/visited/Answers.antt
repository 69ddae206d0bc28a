use Rattle.std.proofs.Common.{subst}
use Rattle.loop_pipeline.specs.Desks.{AreVisited}
use Rattle.loop_pipeline.proofs.desks.Desks.visited.Goals as goal

pub returns : goal.returns
returns g c = subst (AreVisited g.D.Disk.medium g.K.Visits.asks) c.self.view_is c.self.invariant
