use Rattle.std.proofs.Common.{refl}
use Rattle.loop_pipeline.proofs.DeskPlaces.{goes-at, within}
use Rattle.loop_pipeline.proofs.Places.{read-at}
use Rattle.loop_pipeline.proofs.Visiting.{visited-once}
use Rattle.loop_pipeline.proofs.desks.Desks.unlock.Goals as goal

pub invariant_of-self : goal.invariant_of-self
invariant_of-self g c =
    visited-once g.D.Disk.medium g.K.Visits.asks _ c.self.invariant _ _ _
    (read-at _ _ _ (within c.self.view_is c.requires.place) c.index_mut.ensures.value) _ (c.requires.may _) refl
    c.in-Some.ensures.asked

pub returns-clause-goes : goal.returns-clause-goes
returns-clause-goes g c =
    goes-at _ _ c.args.place _ _ _ c.self.view_is
    (read-at _ _ _ (within c.self.view_is c.requires.place) c.index_mut.ensures.value) c.in-Some.ensures.asked
