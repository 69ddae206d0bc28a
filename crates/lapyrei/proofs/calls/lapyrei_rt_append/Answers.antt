use Rattle.lapyrei.specs.Does.{StoresGroup}
use Rattle.lapyrei.specs.Told.{given}
use Rattle.lapyrei.proofs.Serving.{unopened}
use Rattle.lapyrei.proofs.calls.lapyrei_rt_append.Goals as goal

pub returns-in_default : goal.returns-in_default
returns-in_default c =
    unopened (given c.args.image.now c.args.present.now c.args.log.now) c.args.keep
    (StoresGroup c.args.heads.now c.args.bytes.now) c.refuse_unopened.new.log c.refuse_unopened.result
    c.refuse_unopened.ensures
