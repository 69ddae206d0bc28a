use Rattle.loop_station_core.proofs.SaveLaws.{withdrawn_nothing}
use Rattle.loop_station_core.proofs.laws.withdrawn_saves_leave_nothing.Goals as goal

pub returns : goal.returns
returns c = withdrawn_nothing
