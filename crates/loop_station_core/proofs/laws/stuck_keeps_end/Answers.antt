use Rattle.loop_station_core.proofs.EndLaws.{stuck-end}
use Rattle.loop_station_core.proofs.laws.stuck_keeps_end.Goals as goal

pub returns : goal.returns
returns c = stuck-end
