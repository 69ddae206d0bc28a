use Rattle.std.proofs.Common.{◌+◌, ◌*◌, ℕ, Option, Some, None, ap, subst, sym, arith}
use Rattle.loop_record.specs.declared.segment.SegmentHead.{SegmentHead}
use Rattle.loop_record.proofs.Bounds.{limits}
use Rattle.loop_ring.specs.Heads.{has_number}
use Rattle.loop_store.specs.Numbers.{IsLeastFrom}
use Rattle.loop_store.specs.Found.{IsHeadIn}
use Rattle.loop_store.proofs.Least.{least-over, least-there}
use Rattle.loop_store.proofs.look.least_in.Goals as goal

pub returns-then-least-end : goal.returns-then-least-end
returns-then-least-end c =
    let h = c.args.geometry.now in
    let is = c.in_ok-head.was in
    let first = ap (λ (k : ℕ). c.in_ok-head.head.block * k) c.from.ensures in
    subst (λ (o : Option SegmentHead). IsLeastFrom (λ n. has_number h.slots n o) c.args.number (Some c.max-least.result)) (sym is)
    (least-there h c.in_ok-head.head c.args.number (c.in_ok-head.head.block * c.from.result)
    (c.in_ok-head.head.block * c.from.result + c.from-2.result) c.max-least.result
    (limits h c.requires.good).slots.0
    (subst (IsHeadIn h) is c.requires.within) first (omega (arith, c.from-2.ensures)) c.max-least.ensures c.if-least-end.true)

pub returns-else-least-end : goal.returns-else-least-end
returns-else-least-end c =
    let h = c.args.geometry.now in
    let is = c.in_ok-head.was in
    let first = ap (λ (k : ℕ). c.in_ok-head.head.block * k) c.from.ensures in
    subst (λ (o : Option SegmentHead). IsLeastFrom (λ n. has_number h.slots n o) c.args.number None) (sym is)
    (least-over h c.in_ok-head.head c.args.number (c.in_ok-head.head.block * c.from.result)
    (c.in_ok-head.head.block * c.from.result + c.from-2.result) c.max-least.result
    (limits h c.requires.good).slots.0
    (subst (IsHeadIn h) is c.requires.within) first (omega (arith, c.from-2.ensures)) c.max-least.ensures c.if-least-end.false)
