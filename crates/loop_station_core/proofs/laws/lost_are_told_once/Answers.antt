use Rattle.loop_station_core.proofs.LineLaws.{lost-told-once}
use Rattle.loop_station_core.proofs.laws.lost_are_told_once.Goals as goal

pub returns : goal.returns
returns c = lost-told-once
