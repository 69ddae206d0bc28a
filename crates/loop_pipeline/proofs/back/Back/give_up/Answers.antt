use Rattle.loop_pipeline.proofs.BackRuns.{dropped, nothing, was-refused}
use Rattle.loop_pipeline.proofs.back.Back.give_up.Goals as goal

pub invariant_of-self : goal.invariant_of-self
invariant_of-self g c =
    nothing g.D.Disk.medium g.K.Visits.asks g.K.Visits.gives_up _ _ _ _ _ _ _ _ c.self.invariant c.in_default.ensures.ring
    c.in_default.ensures.empty.0

pub invariant_of-self-2 : goal.invariant_of-self-2
invariant_of-self-2 g c =
    rw c.return_memory.ensures
    (dropped g.D.Disk.medium g.K.Visits.asks g.K.Visits.gives_up _ _ _ _ _ _ _ _ c.self.invariant c.in-Ok.frame
    c.if-not-self.false c.in-Ok.ensures.ring c.in-Ok.ensures.ok.0)

pub returns-clause-refused : goal.returns-clause-refused
returns-clause-refused g c =
    rw c.return_memory.ensures
    (was-refused g.D.Disk.medium g.K.Visits.asks g.K.Visits.gives_up _ _ _ _ c.self.inside.from c.self.inside.from _ _
    c.self.invariant c.if-not-self.false)

pub returns-clause-same : goal.returns-clause-same
returns-clause-same g c = rw c.return_memory.ensures c.self.view_is
