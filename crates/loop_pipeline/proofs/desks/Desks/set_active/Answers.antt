use Rattle.loop_pipeline.proofs.DeskPlaces.{within}
use Rattle.loop_pipeline.proofs.Visiting.{turned-on}
use Rattle.loop_pipeline.proofs.desks.Desks.set_active.Goals as goal

pub invariant_of-self : goal.invariant_of-self
invariant_of-self g c =
    turned-on g.D.Disk.medium g.K.Visits.asks _ c.self.invariant c.args.place (within c.self.view_is c.requires)
