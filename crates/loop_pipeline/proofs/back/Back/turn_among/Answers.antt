use Rattle.std.proofs.Common.{◌<◌, ◌≤◌, arith, length, subst}
use Rattle.loop_pipeline.specs.Backs.{SeenBack}
use Rattle.loop_pipeline.proofs.Bringing.{takes-then, turned-for}
use Rattle.loop_pipeline.proofs.back.Back.turn_among.Goals as goal

pub returns-then-count-ge2-clause-turns : goal.returns-then-count-ge2-clause-turns
returns-then-count-ge2-clause-turns g c =
    turned-for g.D.Disk.medium c.args.self.now c.turn.new.self c.turn.result c.turn.ensures.turns c.turn.ensures.stays
    (subst (λ (b : SeenBack g.row.D.Denot g.row.A.Denot). 2 ≤ length b.desks) c.self.view_is
    (grind (arith, c.if-count-ge2.true, c.count.ensures)))

pub returns-then-count-ge2-clause-takes : goal.returns-then-count-ge2-clause-takes
returns-then-count-ge2-clause-takes g c several =
    takes-then g.D.Disk.medium c.args.self.now c.turn.new.self c.turn.result c.turn.ensures.turns c.turn.ensures.stays
    c.turn.ensures.same
    (subst (λ (b : SeenBack g.row.D.Denot g.row.A.Denot). b.active < length b.desks) c.self.view_is
    c.self.invariant.inside)
