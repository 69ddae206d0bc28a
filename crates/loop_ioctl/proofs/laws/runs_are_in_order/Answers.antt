use Rattle.loop_ioctl.proofs.ModelTurns.{runs_are_in_order}
use Rattle.loop_ioctl.proofs.laws.runs_are_in_order.Goals as goal

pub returns : goal.returns
returns g c = runs_are_in_order g.row.A.Denot g.P.PlaneMemory.plane
