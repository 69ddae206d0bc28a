use Rattle.loop_station_core.proofs.KeepLaws.{keeps-right}
use Rattle.loop_station_core.proofs.laws.keeps_are_right.Goals as goal

pub returns : goal.returns
returns c = keeps-right
