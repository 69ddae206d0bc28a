use Rattle.loop_station_core.proofs.GapLaws.{long-gaps}
use Rattle.loop_station_core.proofs.laws.long_gaps_are_long.Goals as goal

pub returns : goal.returns
returns c = long-gaps
