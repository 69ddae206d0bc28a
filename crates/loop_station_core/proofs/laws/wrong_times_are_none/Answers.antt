use Rattle.loop_station_core.proofs.ClockLaws.{wrong-none}
use Rattle.loop_station_core.proofs.laws.wrong_times_are_none.Goals as goal

pub returns : goal.returns
returns c = wrong-none
