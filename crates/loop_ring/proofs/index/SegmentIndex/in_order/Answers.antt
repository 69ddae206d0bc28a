use Rattle.std.proofs.Common.{ap, ◌∙◌}
use Rattle.loop_ring.specs.Heads.{Segments, in_order}
use Rattle.loop_ring.proofs.index.SegmentIndex.in_order.Goals as goal

pub returns : goal.returns
returns g c = c.deref.ensures.value ∙ c.self.invariant.indexed.are ∙ ap (λ (s : Segments). in_order 0 s.heads) c.self.view_is
