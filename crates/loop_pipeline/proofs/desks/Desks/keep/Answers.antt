use Rattle.std.proofs.Common.{subst}
use Rattle.loop_desk.specs.Keeps.{HaveTime}
use Rattle.loop_pipeline.specs.Backs.{IsSoAt, visited}
use Rattle.loop_pipeline.specs.Desks.{SeenDesks}
use Rattle.loop_pipeline.proofs.DeskPlaces.{goes-at, within}
use Rattle.loop_pipeline.proofs.KeepCalls.{all-asked, none-submitted}
use Rattle.loop_pipeline.proofs.Places.{read-at}
use Rattle.loop_pipeline.proofs.Visiting.{visited-more}
use Rattle.loop_pipeline.proofs.desks.Desks.keep.Goals as goal

pub invariant_of-self : goal.invariant_of-self
invariant_of-self g c =
    let k = c.keep_time.ensures.goes in
    visited-more g.D.Disk.medium g.K.Visits.asks _ c.self.invariant _ _ _
    (read-at _ _ _ (within c.self.view_is c.requires.place) c.index_mut.ensures.value) (visited k.calls)
    (all-asked g.K.Visits.asks c.requires.may _ _ _ _ _ k.keeps) (none-submitted _ _ _ _ _ k.keeps) k.goes

pub returns-clause-goes : goal.returns-clause-goes
returns-clause-goes g c =
    goes-at _ _ c.args.place _ _ _ c.self.view_is
    (read-at _ _ _ (within c.self.view_is c.requires.place) c.index_mut.ensures.value) c.keep_time.ensures.goes

pub returns-clause-whole : goal.returns-clause-whole
returns-clause-whole g c none =
    subst (λ (b : SeenDesks g.row.D.Denot).
    IsSoAt c.args.place b.desks (λ desk. HaveTime c.args.times desk c.keep_time.result.clips.items)) c.self.view_is (
      c.index_mut.result.now,
      read-at _ _ _ (within c.self.view_is c.requires.place) c.index_mut.ensures.value,
      c.keep_time.ensures.whole none,
    )
