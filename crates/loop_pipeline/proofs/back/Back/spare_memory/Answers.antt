use Rattle.loop_pipeline.proofs.back.Back.spare_memory.Goals as goal

pub invariant_of-self : goal.invariant_of-self
invariant_of-self g c = rw c.spare_memory.ensures c.self.invariant

pub returns : goal.returns
returns g c = rw c.spare_memory.ensures c.self.view_is
