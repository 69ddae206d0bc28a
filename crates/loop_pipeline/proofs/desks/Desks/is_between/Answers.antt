use Rattle.std.proofs.Common.{◌≡◌, ◌==◌, ◌↔◌, true, ap, refl, subst, arith, Some, sym, ◌∙◌}
use Rattle.loop_record.specs.declared.geometry.Geometry.{Geometry}
use Rattle.loop_pipeline.specs.Backs.{IsSoAt}
use Rattle.loop_pipeline.specs.Desks.{SeenDesks}
use Rattle.loop_pipeline.specs.Turns.{IsBetween}
use Rattle.loop_pipeline.proofs.Places.{read-at}
use Rattle.loop_pipeline.proofs.Turning.{between-else, between-then}
use Rattle.loop_pipeline.proofs.desks.Desks.is_between.Goals as goal

pub returns-then-status-eq0 : goal.returns-then-status-eq0
returns-then-status-eq0 g c =
    subst (λ (b : SeenDesks g.row.D.Denot).
    IsSoAt b.lent.active b.desks (λ desk. ((c.room.result == c.geometry.result.slots) ≡ true) ↔ IsBetween desk)) c.self.view_is (
      c.desk-desk.result.now,
      read-at _ _ _ c.self.invariant.inside c.index.ensures ∙ ap Some (sym c.desk-desk.ensures),
      between-then c.desk-desk.result.now c.status.result.pending c.room.result c.geometry.result.slots c.status.ensures.pending
          c.room.ensures (ap (λ (x : Geometry). x.slots) c.geometry.ensures) (grind (arith, c.if-status-eq0.true)),
    )

pub returns-else-status-eq0 : goal.returns-else-status-eq0
returns-else-status-eq0 g c =
    subst (λ (b : SeenDesks g.row.D.Denot).
    IsSoAt b.lent.active b.desks (λ desk. ((c.status.result.pending == 0) ≡ true) ↔ IsBetween desk)) c.self.view_is (
      c.desk-desk.result.now,
      read-at _ _ _ c.self.invariant.inside c.index.ensures ∙ ap Some (sym c.desk-desk.ensures),
      between-else c.desk-desk.result.now c.status.result.pending _ _ c.status.ensures.pending refl refl c.if-status-eq0.false,
    )
