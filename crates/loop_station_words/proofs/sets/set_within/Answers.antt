use Rattle.std.proofs.Common.{◌+◌, ◌*◌, arith, rules, sym}
use Rattle.loop_station_words.proofs.StoreCounts.{several-within, two-stores, up-bounds}
use Rattle.loop_station_words.proofs.sets.set_within.Goals as goal

pub returns-clause-within : goal.returns-clause-within
returns-clause-within c =
    let frame = c.from-slot.result in
    let largest = 2560 + 64 * (512 + 256 * (32 + frame)) in
    let up = c.div_ceil.result in
    let bounds = up-bounds c.args.bytes largest up (omega arith) (search rules) in
    let two = two-stores largest c.args.bytes up (omega arith) bounds.0 in
    rw (sym c.from-slot.ensures)
    (several-within frame c.args.bytes up c.min-stores.result c.slots_each.result (omega arith) bounds.0 bounds.1
    (omega (arith, two)) (omega arith) (omega arith) (λ less. omega (arith, less)) c.slots_each.ensures.few.0
    c.slots_each.ensures.few.1 c.slots_each.ensures.fits c.slots_each.ensures.most)
