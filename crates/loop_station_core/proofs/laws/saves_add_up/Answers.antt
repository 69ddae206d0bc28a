use Rattle.loop_station_core.proofs.ReaderLaws.{saves-add-up}
use Rattle.loop_station_core.proofs.laws.saves_add_up.Goals as goal

pub returns : goal.returns
returns c = saves-add-up
