use Rattle.loop_station_core.proofs.LostLaws.{lost-counted}
use Rattle.loop_station_core.proofs.laws.lost_are_counted.Goals as goal

pub returns : goal.returns
returns c = lost-counted
