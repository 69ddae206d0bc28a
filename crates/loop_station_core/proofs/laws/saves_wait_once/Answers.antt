use Rattle.loop_station_core.proofs.SaveEndLaws.{told-once}
use Rattle.loop_station_core.proofs.laws.saves_wait_once.Goals as goal

pub returns : goal.returns
returns c = told-once
