use Rattle.std.proofs.Common.{◌≡◌, ◌≤◌, ◌<◌, ◌%◌, ℕ, List, Option, Some, None, get_or, sym, ap, ◌∙◌, subst, arith}
use Rattle.loop_record.specs.declared.segment.SegmentHead.{SegmentHead}
use Rattle.loop_store.proofs.SlotLooks.{found-at, if-none, missing-block, missing-head, missing-slot, there-is}
use Rattle.loop_store.proofs.look.segment_with.Goals as goal

pub returns-in_err-segment-clause-missing : goal.returns-in_err-segment-clause-missing
returns-in_err-segment-clause-missing g c = λ r image known.
    if-none c.from_residual.result (missing-block c.args.index.now.ring.geometry r image c.args.number known.held
    (found-at c.args.index.now.table.heads _ c.args.index.now.ring.geometry.slots c.args.number c.from-slots.result
    c.find.result None known.heads_are c.from-slots.ensures c.find.ensures.place c.in_err-segment.was))

pub returns-in_err-head-clause-missing : goal.returns-in_err-head-clause-missing
returns-in_err-head-clause-missing g c = λ r image known.
    absurd (missing-head c.args.index.now.ring.geometry r image c.args.number c.in_ok-segment.segment
    (found-at c.args.index.now.table.heads _ c.args.index.now.ring.geometry.slots c.args.number c.from-slots.result
    c.find.result (Some c.in_ok-segment.segment) known.heads_are c.from-slots.ensures c.find.ensures.place
    c.in_ok-segment.was)
    (ap (λ (hs : List (Option SegmentHead)). get_or hs c.in_ok-segment.segment None) (sym known.heads_are) ∙ sym c.get.ensures ∙ c.in_err-head.was))

pub returns-then-number-slots-clause-there : goal.returns-then-number-slots-clause-there
returns-then-number-slots-clause-there g c =
    let slots : c.from-slots.result ≡ c.args.index.now.ring.geometry.slots = c.from-slots.ensures in
    let test = c.if-number-slots.true in
    let slot : c.args.number % c.args.index.now.ring.geometry.slots < c.in_ok-head.head.frames =
    subst (λ (n : ℕ). c.args.number % n < c.in_ok-head.head.frames) slots
    (subst (λ (n : ℕ). c.args.number % c.from-slots.result < n) c.from.ensures test) in
    there-is c.args.index.now.table.heads c.args.index.now.ring.geometry.slots c.args.number c.in_ok-segment.segment c.in_ok-head.head
    (found-at c.args.index.now.table.heads c.args.index.now.table.heads c.args.index.now.ring.geometry.slots
    c.args.number c.from-slots.result c.find.result (Some c.in_ok-segment.segment)
    (λ i. c.args.index.now.table.heads) c.from-slots.ensures c.find.ensures.place c.in_ok-segment.was)
    (sym c.get.ensures ∙ c.in_ok-head.was) slot

pub returns-else-number-slots-clause-missing : goal.returns-else-number-slots-clause-missing
returns-else-number-slots-clause-missing g c = λ r image known.
    let slots : c.from-slots.result ≡ c.args.index.now.ring.geometry.slots = c.from-slots.ensures in
    let test : c.from.result ≤ c.args.number % c.from-slots.result = omega (arith, c.if-number-slots.false) in
    let slot : c.in_ok-head.head.frames ≤ c.args.number % c.args.index.now.ring.geometry.slots =
    subst (λ (n : ℕ). c.in_ok-head.head.frames ≤ c.args.number % n) slots
    (subst (λ (n : ℕ). n ≤ c.args.number % c.from-slots.result) c.from.ensures test) in
    missing-slot c.args.index.now.ring.geometry r image c.args.number c.in_ok-segment.segment c.in_ok-head.head known.held
    (found-at c.args.index.now.table.heads _ c.args.index.now.ring.geometry.slots c.args.number c.from-slots.result
    c.find.result (Some c.in_ok-segment.segment) known.heads_are c.from-slots.ensures c.find.ensures.place
    c.in_ok-segment.was)
    (ap (λ (hs : List (Option SegmentHead)). get_or hs c.in_ok-segment.segment None) (sym known.heads_are) ∙ sym c.get.ensures ∙ c.in_ok-head.was) slot
