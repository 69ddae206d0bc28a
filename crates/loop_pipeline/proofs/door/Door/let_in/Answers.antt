use Rattle.loop_pipeline.proofs.Doors.{arrived}
use Rattle.loop_pipeline.proofs.door.Door.let_in.Goals as goal

pub returns-clause-told : goal.returns-clause-told
returns-clause-told g c =
    arrived c.let_in-arrival.result _ _ c.args.back.now c.let_in-arrival.new.back c.let_in-arrival.ensures
