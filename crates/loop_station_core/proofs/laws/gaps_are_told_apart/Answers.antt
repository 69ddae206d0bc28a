use Rattle.loop_station_core.proofs.TimeLaws.{apart}
use Rattle.loop_station_core.proofs.laws.gaps_are_told_apart.Goals as goal

pub returns : goal.returns
returns c = apart
