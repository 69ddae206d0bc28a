use Rattle.loop_ioctl.proofs.Names.{set_gave}
use Rattle.loop_ioctl.proofs.fds.give_set.Goals as goal

pub returns : goal.returns
returns g c = set_gave c.args.set c.args.table.now _ _ _ c.give_place.ensures c.give_place-2.ensures c.give_place-3.ensures
