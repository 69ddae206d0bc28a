use Rattle.loop_station_core.proofs.EndLaws.{keeps-lock}
use Rattle.loop_station_core.proofs.laws.keeps_lock_each_block.Goals as goal

pub returns : goal.returns
returns c = keeps-lock
