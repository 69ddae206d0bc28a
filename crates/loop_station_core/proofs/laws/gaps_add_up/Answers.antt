use Rattle.loop_station_core.proofs.GapLaws.{gaps-add-up}
use Rattle.loop_station_core.proofs.laws.gaps_add_up.Goals as goal

pub returns : goal.returns
returns c = gaps-add-up
