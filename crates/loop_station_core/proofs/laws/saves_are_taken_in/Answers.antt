use Rattle.loop_station_core.proofs.SaveLaws.{saves-taken}
use Rattle.loop_station_core.proofs.laws.saves_are_taken_in.Goals as goal

pub returns : goal.returns
returns c = saves-taken
