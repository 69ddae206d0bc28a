use Rattle.loop_station_core.proofs.GapLaws.{times-add-up}
use Rattle.loop_station_core.proofs.laws.times_add_up.Goals as goal

pub returns : goal.returns
returns c = times-add-up
