use Rattle.loop_station_core.proofs.TimeLaws.{rise}
use Rattle.loop_station_core.proofs.laws.frame_times_rise.Goals as goal

pub returns : goal.returns
returns c = rise
