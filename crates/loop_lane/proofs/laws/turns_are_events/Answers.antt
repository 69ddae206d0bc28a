use Rattle.loop_lane.proofs.QueueTurns.{lane-turns-are-events}
use Rattle.loop_lane.proofs.laws.turns_are_events.Goals as goal

pub returns : goal.returns
returns g c = lane-turns-are-events g.row.A.Denot g.P.PlaneMemory.plane
