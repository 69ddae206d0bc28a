use Rattle.loop_station_core.proofs.EndLaws.{within}
use Rattle.loop_station_core.proofs.laws.covered_parts_are_within.Goals as goal

pub returns : goal.returns
returns c = within
