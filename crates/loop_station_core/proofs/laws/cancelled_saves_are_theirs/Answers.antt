use Rattle.loop_station_core.proofs.SaveLaws.{cancelled-theirs}
use Rattle.loop_station_core.proofs.laws.cancelled_saves_are_theirs.Goals as goal

pub returns : goal.returns
returns c = cancelled-theirs
