use Rattle.loop_pipeline.proofs.Visiting.{none-visited}
use Rattle.loop_pipeline.proofs.desks.Desks.lend.Goals as goal

pub invariant_of-self : goal.invariant_of-self
invariant_of-self g c = rw c.of.ensures (none-visited g.D.Disk.medium g.K.Visits.asks _ _ c.self.invariant.inside)
