use Rattle.loop_ioctl.proofs.EventRuns.{runs_join}
use Rattle.loop_ioctl.proofs.laws.runs_join.Goals as goal

pub returns : goal.returns
returns g c = runs_join g.row.A.Denot g.P.PlaneMemory.plane
