use Rattle.loop_station_core.proofs.LostLaws.{lost-found}
use Rattle.loop_station_core.proofs.laws.lost_are_found.Goals as goal

pub returns : goal.returns
returns c = lost-found
