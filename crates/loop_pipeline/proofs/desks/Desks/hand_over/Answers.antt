use Rattle.std.proofs.Common.{◌∙◌}
use Rattle.loop_pipeline.proofs.Places.{set-same}
use Rattle.loop_pipeline.proofs.desks.Desks.hand_over.Goals as goal

pub invariant_of-self : goal.invariant_of-self
invariant_of-self g c = rw (set-same _ _ _ _ c.index_mut.ensures.value c.return_memory.ensures) c.self.invariant

pub returns : goal.returns
returns g c =
    rw (set-same _ _ _ _ c.index_mut.ensures.value c.return_memory.ensures) (c.self.view_is ∙ c.in-Some.ensures)
