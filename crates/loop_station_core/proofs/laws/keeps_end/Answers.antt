use Rattle.loop_station_core.proofs.EndLaws.{keeps-end}
use Rattle.loop_station_core.proofs.laws.keeps_end.Goals as goal

pub returns : goal.returns
returns c = keeps-end
