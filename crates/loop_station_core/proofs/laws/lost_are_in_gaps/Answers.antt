use Rattle.loop_station_core.proofs.GapLaws.{lost-in}
use Rattle.loop_station_core.proofs.laws.lost_are_in_gaps.Goals as goal

pub returns : goal.returns
returns c = lost-in
