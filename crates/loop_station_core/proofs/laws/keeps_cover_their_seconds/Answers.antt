use Rattle.loop_station_core.proofs.DecisionLaws.{keeps-cover-their-seconds}
use Rattle.loop_station_core.proofs.laws.keeps_cover_their_seconds.Goals as goal

pub returns : goal.returns
returns c = keeps-cover-their-seconds
