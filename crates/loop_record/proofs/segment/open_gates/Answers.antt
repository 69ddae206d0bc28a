use Rattle.std.proofs.Common.{refl, sym, inl, inr, arith}
use Rattle.std.proofs.lemmas.Bool.Decides.{nat_tests}
use Rattle.loop_record.proofs.Gates.{open_gates-are}
use Rattle.loop_record.proofs.segment.open_gates.Goals as goal

pub returns-then-bytes-slot : goal.returns-then-bytes-slot
returns-then-bytes-slot c = sym
    (open_gates-are c.args.slots c.loop-slot.slot 256 c.args.bytes.now c.loop-slot.invariant (omega arith)
    (inr (grind (arith, nat_tests, c.if-bytes-slot.true))))

pub returns : goal.returns
returns c = sym (open_gates-are c.args.slots c.args.slots 256 c.args.bytes.now (λ i below. c.loop-slot.invariant i (omega arith)) (omega arith) (inl refl))
