use Rattle.std.proofs.Common.{sym}
use Rattle.lapyrei.specs.Told.{given}
use Rattle.lapyrei.proofs.Serving.{served_new, unserved_new}
use Rattle.lapyrei.proofs.calls.lapyrei_rt_format.Goals as goal

pub returns-in-Ok : goal.returns-in-Ok
returns-in-Ok c =
    served_new (given c.args.image.now c.args.present.now c.args.log.now) c.args.shape.now c.in-Some.geometry
    c.new-disk.result c.in-Ok.store c.into_disk.result c.finish-in-Ok.new.log c.finish-in-Ok.result
    (sym c.in-Some.ensures) c.new-disk.ensures c.in-Ok.ensures c.into_disk.ensures c.finish-in-Ok.ensures

pub returns-in-Err : goal.returns-in-Err
returns-in-Err c =
    unserved_new (given c.args.image.now c.args.present.now c.args.log.now) c.args.shape.now c.in-Some.geometry
    c.new-disk.result c.in-Err.refused c.refuse.new.log c.refuse.result (sym c.in-Some.ensures) c.new-disk.ensures
    c.in-Err.ensures c.refuse.ensures
