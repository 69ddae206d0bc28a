use Rattle.std.proofs.Common.{◌-◌, ◌^◌, arith}
use Rattle.loop_station_words.proofs.StoreCounts.{each-most, one-fits}
use Rattle.loop_station_words.proofs.sets.slots_each.Goals as goal

pub returns-clause-few : goal.returns-clause-few
returns-clause-few c =
    let one = one-fits c.args.stores c.args.bytes c.args.slot (omega arith) (omega arith) c.requires.room in
    let room = each-most c.args.stores c.fitting-each.result c.args.bytes 1 c.args.slot (2 ^ 64 - 1) (omega arith) (omega arith)
    one c.fitting-each.ensures.most in
    (c.slots_within.ensures.most 1 (omega arith) (omega (arith, room)), c.slots_within.ensures.few)

pub returns-clause-most : goal.returns-clause-most
returns-clause-most c = λ n few fit.
    let room = each-most c.args.stores c.fitting-each.result c.args.bytes n c.args.slot (2 ^ 64 - 1) (omega arith) (omega arith)
    fit c.fitting-each.ensures.most in
    c.slots_within.ensures.most n few (omega (arith, room))
