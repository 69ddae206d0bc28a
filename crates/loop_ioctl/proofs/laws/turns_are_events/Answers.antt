use Rattle.loop_ioctl.proofs.ModelTurns.{turns_are_events}
use Rattle.loop_ioctl.proofs.laws.turns_are_events.Goals as goal

pub returns : goal.returns
returns g c = turns_are_events g.row.A.Denot g.P.PlaneMemory.plane
