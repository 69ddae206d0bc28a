use Rattle.loop_station_core.proofs.FrameLaws.{tallies-add-up}
use Rattle.loop_station_core.proofs.laws.tallies_add_up.Goals as goal

pub returns : goal.returns
returns c = tallies-add-up
