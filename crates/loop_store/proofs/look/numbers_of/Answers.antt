use Rattle.std.proofs.Common.{length, arith}
use Rattle.loop_store.proofs.Numbers.{few-more, one-in, room-for, segment-more}
use Rattle.loop_store.proofs.look.numbers_of.Goals as goal

pub add_numbers-requires : goal.add_numbers-requires
add_numbers-requires g c =
    let one = one-in c.args.geometry.now c.args.segments.now c.loop-found.found-index _ c.requires.within c.loop-found-test.true in record {
      few = one.few;
      low = one.low;
      room = room-for c.args.geometry.now.slots c.loop-found.found-index (length c.args.segments.now)
          (length c.loop-found.numbers.items) _ _ c.loop-found-test.true c.loop-found.invariant.few one.few
          c.loop-found.invariant.room;
    }

pub loop-found-preserved : goal.loop-found-preserved
loop-found-preserved g c =
    let h = c.args.geometry.now in
    let k = c.loop-found.found-index in
    let one = one-in h c.args.segments.now k _ c.requires.within c.loop-found-test.true in record {
      items = segment-more h c.args.segments.now k _ c.loop-found.numbers.items c.add_numbers.new.numbers.items
          c.loop-found-test.true c.loop-found.invariant.items c.add_numbers.ensures.items;
      few = few-more h.slots k _ _ c.loop-found.numbers.items c.add_numbers.new.numbers.items c.add_numbers.ensures.items c.loop-found.invariant.few one.few;
      room = omega (arith, c.add_numbers.ensures.room, c.loop-found.invariant.room);
    }
