use Rattle.std.proofs.Common.{[], ◌∷◌, refl}
use Rattle.std.proofs.lemmas.List.Elements.{All-cons, All-nil}
use Rattle.loop_store.specs.Runs.{read_of}
use Rattle.loop_desk.specs.Desk.{frame_read}
use Rattle.loop_pipeline.specs.Backs.{visited}
use Rattle.loop_pipeline.proofs.DeskPlaces.{some-then, goes-at, within}
use Rattle.loop_pipeline.proofs.Places.{read-at, set-same}
use Rattle.loop_pipeline.proofs.Visiting.{visited-maybe}
use Rattle.loop_pipeline.proofs.desks.Desks.read_noted.Goals as goal

pub invariant_of-self : goal.invariant_of-self
invariant_of-self g c =
    visited-maybe g.D.Disk.medium g.K.Visits.asks _ c.self.invariant _ _ _
    (read-at _ _ _ (within c.self.view_is c.requires.place) c.index_mut.ensures.value) c.index_mut.ensures.value
    (λ answer. visited (frame_read c.args.number (read_of answer) ∷ []))
    (λ answer. All-cons g.K.Visits.asks _ [] (c.requires.may (read_of answer)) (All-nil g.K.Visits.asks)) (λ answer. refl)
    c.read_frame.result c.read_frame.ensures.asked c.read_frame.ensures.unasked

pub returns-clause-asked : goal.returns-clause-asked
returns-clause-asked g c =
    some-then c.read_frame.result _ _ c.read_frame.ensures.asked (λ answer goes.
    goes-at _ _ c.args.place _ _ _ c.self.view_is
    (read-at _ _ _ (within c.self.view_is c.requires.place) c.index_mut.ensures.value) goes)

pub returns-clause-unasked : goal.returns-clause-unasked
returns-clause-unasked g c none = rw (set-same _ _ _ _ c.index_mut.ensures.value (c.read_frame.ensures.unasked none)) c.self.view_is
