use Rattle.loop_station_core.proofs.EndLaws.{keeps-lock-once}
use Rattle.loop_station_core.proofs.laws.keeps_lock_once.Goals as goal

pub returns : goal.returns
returns c = keeps-lock-once
