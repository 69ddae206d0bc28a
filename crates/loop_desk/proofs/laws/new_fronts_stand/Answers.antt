use Rattle.loop_desk.proofs.FrontTurns.{new_fronts_stand}
use Rattle.loop_desk.proofs.laws.new_fronts_stand.Goals as goal

pub returns : goal.returns
returns g c = new_fronts_stand g.row.A.Denot g.P.PlaneMemory.plane
