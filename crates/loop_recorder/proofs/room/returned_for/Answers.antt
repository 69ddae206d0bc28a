use Rattle.std.proofs.Common.{arith}
use Rattle.loop_recorder.proofs.room.returned_for.Goals as goal

pub returns-clause-rests : goal.returns-clause-rests
returns-clause-rests g c = c.in-Ok.ensures.items

pub returns-clause-filmed : goal.returns-clause-filmed
returns-clause-filmed g c = c.in-Ok-with_capacity.ensures.items

pub returns-clause-room : goal.returns-clause-room
returns-clause-room g c =
    let rests = c.in-Ok.ensures in
    let filmed = c.in-Ok-with_capacity.ensures in
    record { rests = (omega (arith, rests.len, filmed.len), rests.capacity); filmed = filmed.capacity }
