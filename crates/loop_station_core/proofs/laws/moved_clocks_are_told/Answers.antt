use Rattle.loop_station_core.proofs.ClockLaws.{moved-told}
use Rattle.loop_station_core.proofs.laws.moved_clocks_are_told.Goals as goal

pub returns : goal.returns
returns c = moved-told
