use Rattle.loop_station_core.proofs.ClockLaws.{right-stay}
use Rattle.loop_station_core.proofs.laws.right_times_stay.Goals as goal

pub returns : goal.returns
returns c = right-stay
