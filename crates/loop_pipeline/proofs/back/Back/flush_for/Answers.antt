use Rattle.std.proofs.Common.{ap, refl}
use Rattle.loop_pipeline.specs.Desks.{Lent}
use Rattle.loop_pipeline.proofs.BackRuns.{flushed-on, last, refused-flush}
use Rattle.loop_pipeline.proofs.DeskPlaces.{changed, flush-answered, unchanged-inside}
use Rattle.loop_pipeline.proofs.Visiting.{kept-as, last-as}
use Rattle.loop_pipeline.proofs.back.Back.flush_for.Goals as goal

pub invariant_of-self : goal.invariant_of-self
invariant_of-self g c = rw (c.in-None.ensures.unasked refl) c.self.invariant

pub invariant_of-self-in-Some-Ok : goal.invariant_of-self-in-Some-Ok
invariant_of-self-in-Some-Ok g c =
    let goes = c.in-Some-Ok.ensures.asked in
    kept-as g.D.Disk.medium g.G.Visits.asks g.G.Visits.gives_up _ _ _ _ _ _ _ c.flush_noted.new.self goes.same
    (ap (λ (l : Lent g.row.D.Denot). l.active) c.in-Some-Ok.ensures.lent)
    (ap (λ (l : Lent g.row.D.Denot). l.end) c.in-Some-Ok.ensures.lent)
    (flushed-on g.D.Disk.medium g.G.Visits.asks g.G.Visits.gives_up _ _ _ _ c.self.inside.from c.self.inside.from _ _ c.self.invariant _ _ _
    goes.at _ goes.goes)

pub invariant_of-self-then-not-flushes_again : goal.invariant_of-self-then-not-flushes_again
invariant_of-self-then-not-flushes_again g c =
    let goes = c.in-Some-Err.ensures.asked in
    kept-as g.D.Disk.medium g.G.Visits.asks g.G.Visits.gives_up _ _ _ _ _ _ _ c.flush_noted.new.self goes.same
    (ap (λ (l : Lent g.row.D.Denot). l.active) c.in-Some-Err.ensures.lent)
    (ap (λ (l : Lent g.row.D.Denot). l.end) c.in-Some-Err.ensures.lent)
    (refused-flush g.D.Disk.medium g.G.Visits.asks g.G.Visits.gives_up _ _ _ _ c.self.inside.from c.self.inside.from _ _ c.self.invariant _ _ _
    goes.at c.in-Some-Err.fault (c.flushes_again.ensures c.if-not-flushes_again.true)
    (flush-answered _ _ _ _ _ c.in-Some-Err.field-0-is goes.goes))

pub invariant_of-self-else-not-flushes_again : goal.invariant_of-self-else-not-flushes_again
invariant_of-self-else-not-flushes_again g c =
    let goes = c.in-Some-Err.ensures.asked in
    kept-as g.D.Disk.medium g.G.Visits.asks g.G.Visits.gives_up _ _ _ _ _ _ _ c.flush_noted.new.self goes.same
    (ap (λ (l : Lent g.row.D.Denot). l.active) c.in-Some-Err.ensures.lent)
    (ap (λ (l : Lent g.row.D.Denot). l.end) c.in-Some-Err.ensures.lent)
    (flushed-on g.D.Disk.medium g.G.Visits.asks g.G.Visits.gives_up _ _ _ _ c.self.inside.from c.self.inside.from _ _ c.self.invariant _ _ _
    goes.at _ goes.goes)

pub returns-in-Some-Ok-clause-last : goal.returns-in-Some-Ok-clause-last
returns-in-Some-Ok-clause-last g c =
    let goes = c.in-Some-Ok.ensures.asked in
    last-as g.D.Disk.medium _ _ _ _ c.flush_noted.new.self goes.same
    (ap (λ (l : Lent g.row.D.Denot). l.active) c.in-Some-Ok.ensures.lent)
    (last g.D.Disk.medium g.G.Visits.asks g.G.Visits.gives_up _ _ _ _ c.self.inside.from c.self.inside.from _ _ c.self.invariant _ _ _
    goes.at (flush-answered _ _ _ _ _ c.in-Some-Ok.field-0-is goes.goes))

pub returns-then-not-flushes_again-clause-last : goal.returns-then-not-flushes_again-clause-last
returns-then-not-flushes_again-clause-last g c =
    let goes = c.in-Some-Err.ensures.asked in
    last-as g.D.Disk.medium _ _ _ _ c.flush_noted.new.self goes.same
    (ap (λ (l : Lent g.row.D.Denot). l.active) c.in-Some-Err.ensures.lent)
    (last g.D.Disk.medium g.G.Visits.asks g.G.Visits.gives_up _ _ _ _ c.self.inside.from c.self.inside.from _ _ c.self.invariant _ _ _
    goes.at (flush-answered _ _ _ _ _ c.in-Some-Err.field-0-is goes.goes))

pub returns-else-not-flushes_again-clause-last : goal.returns-else-not-flushes_again-clause-last
returns-else-not-flushes_again-clause-last g c =
    let goes = c.in-Some-Err.ensures.asked in
    last-as g.D.Disk.medium _ _ _ _ c.flush_noted.new.self goes.same
    (ap (λ (l : Lent g.row.D.Denot). l.active) c.in-Some-Err.ensures.lent)
    (last g.D.Disk.medium g.G.Visits.asks g.G.Visits.gives_up _ _ _ _ c.self.inside.from c.self.inside.from _ _ c.self.invariant _ _ _
    goes.at (flush-answered _ _ _ _ _ c.in-Some-Err.field-0-is goes.goes))

pub returns-in-None-clause-same : goal.returns-in-None-clause-same
returns-in-None-clause-same g c =
    rw (c.in-None.ensures.unasked refl) (unchanged-inside _ _ c.self.view_is c.self.invariant.inside)

pub returns-in-Some-Ok-clause-same : goal.returns-in-Some-Ok-clause-same
returns-in-Some-Ok-clause-same g c =
    let goes = c.in-Some-Ok.ensures.asked in
    changed _ _ goes.after _ _ _ c.self.view_is goes.same
    (ap (λ (l : Lent g.row.D.Denot). l.active) c.in-Some-Ok.ensures.lent)
    (ap (λ (l : Lent g.row.D.Denot). l.end) c.in-Some-Ok.ensures.lent)

pub returns-then-not-flushes_again-clause-same : goal.returns-then-not-flushes_again-clause-same
returns-then-not-flushes_again-clause-same g c =
    let goes = c.in-Some-Err.ensures.asked in
    changed _ _ goes.after _ _ _ c.self.view_is goes.same
    (ap (λ (l : Lent g.row.D.Denot). l.active) c.in-Some-Err.ensures.lent)
    (ap (λ (l : Lent g.row.D.Denot). l.end) c.in-Some-Err.ensures.lent)

pub returns-else-not-flushes_again-clause-same : goal.returns-else-not-flushes_again-clause-same
returns-else-not-flushes_again-clause-same g c =
    let goes = c.in-Some-Err.ensures.asked in
    changed _ _ goes.after _ _ _ c.self.view_is goes.same
    (ap (λ (l : Lent g.row.D.Denot). l.active) c.in-Some-Err.ensures.lent)
    (ap (λ (l : Lent g.row.D.Denot). l.end) c.in-Some-Err.ensures.lent)
