use Rattle.std.proofs.Common.{subst, arith, Some, ap, sym, ◌∙◌}
use Rattle.loop_pipeline.specs.Backs.{HasRoom, IsSoAt}
use Rattle.loop_pipeline.specs.Desks.{SeenDesks}
use Rattle.loop_pipeline.proofs.Places.{read-at}
use Rattle.loop_pipeline.proofs.Turning.{not-true}
use Rattle.loop_pipeline.proofs.desks.Desks.has_room.Goals as goal

pub returns-then-anyway-clause-frame : goal.returns-then-anyway-clause-frame
returns-then-anyway-clause-frame g c e several =
    subst (λ (b : SeenDesks g.row.D.Denot). IsSoAt b.lent.active b.desks HasRoom) c.self.view_is (
      c.desk-desk.result.now,
      read-at _ _ _ c.self.invariant.inside c.index.ensures ∙ ap Some (sym c.desk-desk.ensures),
      grind (arith, c.if-waiting-room.false, c.status-waiting.ensures.pending, c.room.ensures),
    )

pub returns-else-anyway-clause-frame : goal.returns-else-anyway-clause-frame
returns-else-anyway-clause-frame g c e several =
    subst (λ (b : SeenDesks g.row.D.Denot). IsSoAt b.lent.active b.desks HasRoom) c.self.view_is (
      c.desk-desk.result.now,
      read-at _ _ _ c.self.invariant.inside c.index.ensures ∙ ap Some (sym c.desk-desk.ensures),
      grind (arith, c.if-waiting-room.false, c.status-waiting.ensures.pending, c.room.ensures),
    )

pub returns-else-anyway-clause-block : goal.returns-else-anyway-clause-block
returns-else-anyway-clause-block g c e usual several = c.is_locked.ensures (not-true c.is_locked.result e)
