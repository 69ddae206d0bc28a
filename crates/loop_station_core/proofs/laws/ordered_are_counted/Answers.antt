use Rattle.loop_station_core.proofs.NewestLaws.{ordered-counted}
use Rattle.loop_station_core.proofs.laws.ordered_are_counted.Goals as goal

pub returns : goal.returns
returns c = ordered-counted
