use Rattle.loop_station_core.proofs.TimeLaws.{gaps-told}
use Rattle.loop_station_core.proofs.laws.long_gaps_are_told.Goals as goal

pub returns : goal.returns
returns c = gaps-told
