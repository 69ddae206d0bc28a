use Rattle.loop_station_core.proofs.TimeLaws.{odd-once}
use Rattle.loop_station_core.proofs.laws.odd_times_are_told_once.Goals as goal

pub returns : goal.returns
returns c = odd-once
