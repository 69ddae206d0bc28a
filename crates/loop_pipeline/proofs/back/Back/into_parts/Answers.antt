use Rattle.std.proofs.Common.{◌<◌, ap, arith, length, subst, sym, ◌∙◌}
use Rattle.loop_pipeline.specs.Backs.{SeenBack}
use Rattle.loop_pipeline.proofs.SeveralStarts.{taken}
use Rattle.loop_pipeline.proofs.back.Back.into_parts.Goals as goal

pub returns-clause-desks : goal.returns-clause-desks
returns-clause-desks g c =
    let seats = c.into_seats-desks.result.items in
    let all = c.into_seats-desks.ensures.all in
    let less : c.self.inside.desks.lent.active < length seats =
    subst (λ l. c.self.inside.desks.lent.active < length l) (sym all) c.self.invariant.inside in
    sym (taken seats _ _ (omega (arith, less)) c.remove-desk.ensures.value c.remove-desk.ensures.items)
    ∙ (all ∙ ap (λ (b : SeenBack g.row.D.Denot g.row.A.Denot). b.desks) c.self.view_is)
