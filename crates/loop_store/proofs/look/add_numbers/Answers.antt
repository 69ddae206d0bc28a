use Rattle.std.proofs.Common.{◌≡◌, ◌+◌, ◌*◌, ℕ, length, vec_len, ap, ◌∙◌, arith}
use Rattle.loop_store.proofs.Numbers.{number-count, number-more}
use Rattle.loop_store.proofs.look.add_numbers.Goals as goal

pub push_reserved-requires : goal.push_reserved-requires
push_reserved-requires g c =
    let here = c.loop-slot.invariant in
    let count : vec_len c.loop-slot.numbers ≡ length c.args.numbers.now.items + c.loop-slot.slot =
    c.loop-slot.numbers.ok.0 ∙ number-count (c.args.found.block * c.args.geometry.now.slots) c.loop-slot.slot
    c.args.numbers.now.items c.loop-slot.numbers.items here.items in
    omega (arith, count, here.room, c.loop-slot-test.true, c.requires.room)

pub loop-slot-preserved : goal.loop-slot-preserved
loop-slot-preserved g c =
    let here = c.loop-slot.invariant in
    let first = ap (λ (k : ℕ). c.args.found.block * k) c.from.ensures in record {
      items = number-more (c.args.found.block * c.args.geometry.now.slots) c.loop-slot.slot
          (c.args.found.block * c.from.result + c.from-in-loop-slot.result) c.args.numbers.now.items
          c.push_reserved.new.self.items c.loop-slot.numbers.items
          (omega (arith, first, c.from-in-loop-slot.ensures)) here.items c.push_reserved.ensures.items;
      room = omega (arith, c.push_reserved.ensures.capacity, here.room);
    }
