use Rattle.std.proofs.Common.{refl}
use Rattle.loop_desk.specs.Desk.{flushed}
use Rattle.loop_pipeline.specs.Backs.{own}
use Rattle.loop_pipeline.proofs.DeskPlaces.{goes-active, some-then}
use Rattle.loop_pipeline.proofs.Places.{read-at, set-same}
use Rattle.loop_pipeline.proofs.Visiting.{last-visited, visited-maybe}
use Rattle.loop_pipeline.proofs.desks.Desks.flush_noted.Goals as goal

pub invariant_of-self : goal.invariant_of-self
invariant_of-self g c =
    visited-maybe g.D.Disk.medium g.K.Visits.asks _ c.self.invariant _ _ _
    (read-at _ _ _ c.self.invariant.inside c.index_mut.ensures.value) c.index_mut.ensures.value
    (λ answer. own (flushed answer)) (λ answer. refl) (λ answer. refl)
    c.flush.result c.flush.ensures.asked c.flush.ensures.unasked

pub returns-clause-asked : goal.returns-clause-asked
returns-clause-asked g c =
    some-then c.flush.result _ _ c.flush.ensures.asked (λ answer goes.
    goes-active _ _ _ _ _ c.self.view_is (read-at _ _ _ c.self.invariant.inside c.index_mut.ensures.value) goes)

pub returns-clause-last : goal.returns-clause-last
returns-clause-last g c =
    some-then c.flush.result _ _ c.flush.ensures.asked (λ answer goes.
    last-visited g.D.Disk.medium g.K.Visits.asks _ c.self.invariant _ _ _
    (read-at _ _ _ c.self.invariant.inside c.index_mut.ensures.value) goes)

pub returns-clause-unasked : goal.returns-clause-unasked
returns-clause-unasked g c none = rw (set-same _ _ _ _ c.index_mut.ensures.value (c.flush.ensures.unasked none)) c.self.view_is
