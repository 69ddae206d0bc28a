use Rattle.std.proofs.Common.{ap, ◌∙◌}
use Rattle.loop_pipeline.specs.Desks.{Lent, SeenDesks}
use Rattle.loop_pipeline.proofs.Visiting.{back-but-desks, kept-lent}
use Rattle.loop_pipeline.proofs.guided.visit.Goals as goal

pub invariant_of-back : goal.invariant_of-back
invariant_of-back g c =
    kept-lent g.D.Disk.medium g.G.Visits.asks g.G.Visits.gives_up _ c.back.inside.desks.desks
    c.back.inside.desks.lent.active _ _ _ _ c.visit.new.desks
    (c.visit.ensures ∙ ap (λ (s : SeenDesks g.row.D.Denot). s.lent) c.lend.ensures) c.visited.ensures c.back.invariant

pub returns : goal.returns
returns g c =
    let same = c.visit.ensures ∙ ap (λ (s : SeenDesks g.row.D.Denot). s.lent) c.lend.ensures in
    back-but-desks _ _ c.visit.new.desks.desks _ _ c.back.view_is (ap (λ (l : Lent g.row.D.Denot). l.active) same)
    (ap (λ (l : Lent g.row.D.Denot). l.end) same)
