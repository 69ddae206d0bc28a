use Rattle.std.proofs.Common.{inl, ◌+◌, ◌*◌, ◌<◌, ℕ, sym, ap, ◌∙◌, subst, arith}
use Rattle.loop_record.proofs.Bounds.{limits}
use Rattle.loop_store.proofs.Locks.{run-ends, run-from, run-held}
use Rattle.loop_store.proofs.lock.run_end.Goals as goal

pub returns-in-Some-get-clause-held : goal.returns-in-Some-get-clause-held
returns-in-Some-get-clause-held g c = λ r image known m low high.
    let h = c.args.index.now.ring.geometry in
    let head = c.in-Some-get.head in
    let end : m < head.block * h.slots + head.frames =
    subst (λ (k : ℕ). m < head.block * h.slots + k) c.from-in-Some-get.ensures
    (subst (λ (k : ℕ). m < head.block * k + c.from-in-Some-get.result) c.from.ensures high) in
    run-held h r image c.args.index.now.table.heads c.in-Some.segment c.args.number m head known.held known.heads_are
    c.requires.within c.in-Some.ensures.within (limits h c.args.index.now.ring.good).slots.0
    (sym c.get.ensures ∙ c.in-Some-get.is) c.in-Some.ensures.there low end

pub returns-in-Some-get-clause-from : goal.returns-in-Some-get-clause-from
returns-in-Some-get-clause-from g c =
    let h = c.args.index.now.ring.geometry in
    let head = c.in-Some-get.head in
    let there = run-from h.slots c.args.number head.block head.frames _ (sym c.get.ensures ∙ c.in-Some-get.is) c.in-Some.ensures.there in
    let first = ap (λ (k : ℕ). head.block * k) c.from.ensures in
    omega (arith, there, first, c.from-in-Some-get.ensures)

pub returns-in-None-clause-missing : goal.returns-in-None-clause-missing
returns-in-None-clause-missing g c = λ r image known same. c.in-None.ensures.missing r image known

pub returns-in-Some-get-clause-whole : goal.returns-in-Some-get-clause-whole
returns-in-Some-get-clause-whole g c = λ r image known.
    let h = c.args.index.now.ring.geometry in
    let head = c.in-Some-get.head in
    run-ends h r image c.args.index.now.table.heads c.in-Some.segment c.args.number _ head known.held known.heads_are c.requires.within c.in-Some.ensures.within
    (sym c.get.ensures ∙ c.in-Some-get.is) c.in-Some.ensures.there (λ i. head.block * c.from.ensures i + c.from-in-Some-get.ensures i)

pub returns-in-None-clause-whole : goal.returns-in-None-clause-whole
returns-in-None-clause-whole g c = λ r image known. inl (c.in-None.ensures.missing r image known)
