use Rattle.loop_pipeline.proofs.Roomy.{room-is-taken}
use Rattle.loop_pipeline.proofs.laws.room_is_turned_to.Goals as goal

pub returns : goal.returns
returns g c = λ new locked turns place d r at stands takes.
    room-is-taken g.D.Disk.medium _ _ _ new locked turns place d r at stands takes
