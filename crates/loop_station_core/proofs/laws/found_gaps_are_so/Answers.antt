use Rattle.loop_station_core.proofs.SearchLaws.{found-so}
use Rattle.loop_station_core.proofs.laws.found_gaps_are_so.Goals as goal

pub returns : goal.returns
returns c = found-so
