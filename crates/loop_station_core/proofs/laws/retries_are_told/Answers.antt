use Rattle.loop_station_core.proofs.SaveEndLaws.{told-first}
use Rattle.loop_station_core.proofs.laws.retries_are_told.Goals as goal

pub returns : goal.returns
returns c = told-first
