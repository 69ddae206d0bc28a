use Rattle.loop_station_core.proofs.SaveEndLaws.{ends-told}
use Rattle.loop_station_core.proofs.laws.ends_are_told.Goals as goal

pub returns : goal.returns
returns c = ends-told
