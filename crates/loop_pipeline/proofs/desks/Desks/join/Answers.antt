use Rattle.std.proofs.Common.{◌<◌, ◌∷◌, ◌++◌, [], ap, arith, length, ◌∙◌, subst, sym}
use Rattle.std.proofs.lemmas.List.{length-append}
use Rattle.loop_pipeline.specs.Desks.{SeenDesks}
use Rattle.loop_pipeline.proofs.Visiting.{none-visited}
use Rattle.loop_pipeline.proofs.desks.Desks.join.Goals as goal

pub invariant_of-self : goal.invariant_of-self
invariant_of-self g c =
    rw (c.of.ensures, c.push_reserved.ensures.items)
    (none-visited g.D.Disk.medium g.K.Visits.asks _ _
    (subst (λ n. c.self.inside.active < n) (sym (length-append c.self.inside.seats.items (c.args.desk ∷ [])))
    (let inside : c.self.inside.active < length c.self.inside.seats.items = c.self.invariant.inside in omega (arith, inside))))

pub returns-clause-done : goal.returns-clause-done
returns-clause-done g c = (
  c.len-place.ensures ∙ (c.self.inside.seats.ok.0 ∙ ap (λ (b : SeenDesks g.row.D.Denot). length b.desks) c.self.view_is),
  c.push_reserved.ensures.items ∙ ap (λ (b : SeenDesks g.row.D.Denot). b.desks ++ c.args.desk ∷ []) c.self.view_is,
  ap (λ (b : SeenDesks g.row.D.Denot). b.lent.active) c.self.view_is,
  ap (λ (b : SeenDesks g.row.D.Denot). b.lent.end) c.self.view_is,
)
