use Rattle.loop_station_core.proofs.SearchLaws.{looked-for}
use Rattle.loop_station_core.proofs.laws.gaps_are_looked_for.Goals as goal

pub returns : goal.returns
returns c = looked-for
