use Rattle.lapyrei.specs.Does.{Upgrades}
use Rattle.lapyrei.specs.Told.{given}
use Rattle.lapyrei.proofs.Serving.{served, unserved}
use Rattle.lapyrei.proofs.calls.lapyrei_rt_upgrade.Goals as goal

pub returns-in-Ok : goal.returns-in-Ok
returns-in-Ok c =
    served (given c.args.image.now c.args.present.now c.args.log.now) c.args.keep
    Upgrades c.in-Ok.opened
    c.upgrade-outcome.new.store c.upgrade-outcome.result c.into_disk.result c.finish.new.log c.finish.result c.in-Ok.ensures
    c.upgrade-outcome.ensures c.into_disk.ensures c.finish.ensures

pub returns-in-Err : goal.returns-in-Err
returns-in-Err c =
    unserved (given c.args.image.now c.args.present.now c.args.log.now) c.args.keep
    Upgrades c.in-Err.refused c.refuse.new.log
    c.refuse.result c.in-Err.ensures c.refuse.ensures
