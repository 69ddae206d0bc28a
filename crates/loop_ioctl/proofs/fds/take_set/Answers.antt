use Rattle.loop_ioctl.proofs.Names.{set_fails_second, set_fails_third}
use Rattle.loop_ioctl.proofs.fds.take_set.Goals as goal

pub returns-in-Err-take_place : goal.returns-in-Err-take_place
returns-in-Err-take_place g c =
    set_fails_second c.args.named c.in-Err-take_place.reason c.in-Ok.y c.args.table.now c.take_place.new.table
    c.take_place-2.new.table c.give_place.new.table c.in-Ok.ensures c.in-Err-take_place.ensures c.give_place.ensures

pub returns-in-Err-take_place-2 : goal.returns-in-Err-take_place-2
returns-in-Err-take_place-2 g c =
    set_fails_third c.args.named c.in-Err-take_place-2.reason c.in-Ok.y c.in-Ok-take_place.cb c.args.table.now
    c.take_place.new.table c.take_place-2.new.table c.take_place-3.new.table
    c.give_place-in-Err-take_place-2.new.table c.give_place-in-Err-take_place-2-2.new.table
    c.in-Ok.ensures c.in-Ok-take_place.ensures c.in-Err-take_place-2.ensures c.give_place-in-Err-take_place-2.ensures c.give_place-in-Err-take_place-2-2.ensures
