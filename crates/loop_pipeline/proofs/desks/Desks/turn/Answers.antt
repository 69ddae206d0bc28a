use Rattle.loop_pipeline.proofs.Turning.{is-between, locked-all, turned-same}
use Rattle.loop_pipeline.proofs.desks.Desks.turn.Goals as goal

pub returns-in-Some-clause-stays : goal.returns-in-Some-clause-stays
returns-in-Some-clause-stays g c never =
    absurd (never (is-between c.args.self.now.desks c.args.self.now.lent.active c.is_between.result c.is_between.ensures
    c.if-not-is_between.false))

pub returns-in-None-clause-stays : goal.returns-in-None-clause-stays
returns-in-None-clause-stays g c never =
    absurd (never (is-between c.args.self.now.desks c.args.self.now.lent.active c.is_between.result c.is_between.ensures
    c.if-not-is_between.false))

pub returns-in-None-clause-locked : goal.returns-in-None-clause-locked
returns-in-None-clause-locked g c e =
    locked-all g.D.Disk.medium c.args.self.now.desks c.args.self.now.lent.end c.args.self.now.lent.active c.next_desk.result c.in-None.is
    c.next_desk.ensures
    (is-between c.args.self.now.desks c.args.self.now.lent.active c.is_between.result c.is_between.ensures
    c.if-not-is_between.false)

pub returns-in-Some-clause-same : goal.returns-in-Some-clause-same
returns-in-Some-clause-same g c = turned-same g.D.Disk.medium c.args.self.now _ c.in-Some.place c.turn_to.ensures
