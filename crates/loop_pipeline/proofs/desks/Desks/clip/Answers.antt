use Rattle.std.proofs.Common.{◌≡◌, None, Some, ap, slice_index_or, subst, sym, ◌∙◌}
use Rattle.loop_pipeline.specs.Backs.{IsSoAt}
use Rattle.loop_pipeline.specs.Desks.{SeenDesks}
use Rattle.loop_pipeline.proofs.DeskPlaces.{within}
use Rattle.loop_pipeline.proofs.Places.{read-at}
use Rattle.loop_pipeline.proofs.desks.Desks.clip.Goals as goal

pub returns : goal.returns
returns g c =
    subst (λ (b : SeenDesks g.row.D.Denot).
    IsSoAt c.args.place b.desks (λ desk. c.clip.result ≡ slice_index_or desk.store.clips c.args.id None)) c.self.view_is (
      c.desk.result.now,
      read-at _ _ _ (within c.self.view_is c.requires) c.index.ensures ∙ ap Some (sym c.desk.ensures),
      c.clip.ensures,
    )
