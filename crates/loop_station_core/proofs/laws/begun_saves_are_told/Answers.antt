use Rattle.loop_station_core.proofs.SaveLaws.{begun-told}
use Rattle.loop_station_core.proofs.laws.begun_saves_are_told.Goals as goal

pub returns : goal.returns
returns c = begun-told
