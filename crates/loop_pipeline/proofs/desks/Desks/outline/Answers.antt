use Rattle.std.proofs.Common.{IfErr, IfOk, subst, Some, ap, sym, ◌∙◌}
use Rattle.loop_desk.specs.Seen.{OutlineRefuses, TellsOutline}
use Rattle.loop_pipeline.specs.Backs.{IsSoAt}
use Rattle.loop_pipeline.specs.Desks.{SeenDesks}
use Rattle.loop_pipeline.proofs.DeskPlaces.{err-then, ok-then, within}
use Rattle.loop_pipeline.proofs.Places.{read-at}
use Rattle.loop_pipeline.proofs.desks.Desks.outline.Goals as goal

pub returns-clause-outline : goal.returns-clause-outline
returns-clause-outline g c =
    subst (λ (b : SeenDesks g.row.D.Denot).
    IfOk c.outline.result (λ outline. IsSoAt c.args.place b.desks (λ desk. TellsOutline g.D.Disk.medium desk outline))) c.self.view_is
    (ok-then c.outline.result _ _ c.outline.ensures.outline
    (λ outline told. (c.desk.result.now, read-at _ _ _ (within c.self.view_is c.requires) c.index.ensures ∙ ap Some (sym c.desk.ensures), told)))

pub returns-clause-refused : goal.returns-clause-refused
returns-clause-refused g c =
    subst (λ (b : SeenDesks g.row.D.Denot).
    IfErr c.outline.result (λ fault. IsSoAt c.args.place b.desks (λ desk. OutlineRefuses desk fault))) c.self.view_is
    (err-then c.outline.result _ _ c.outline.ensures.refused
    (λ fault why. (c.desk.result.now, read-at _ _ _ (within c.self.view_is c.requires) c.index.ensures ∙ ap Some (sym c.desk.ensures), why)))
