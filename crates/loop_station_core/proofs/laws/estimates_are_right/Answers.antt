use Rattle.loop_station_core.proofs.LossLaws.{estimates-right}
use Rattle.loop_station_core.proofs.laws.estimates_are_right.Goals as goal

pub returns : goal.returns
returns c = estimates-right
