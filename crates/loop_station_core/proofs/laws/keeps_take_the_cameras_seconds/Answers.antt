use Rattle.loop_station_core.proofs.DecisionLaws.{keeps-take-the-cameras-seconds}
use Rattle.loop_station_core.proofs.laws.keeps_take_the_cameras_seconds.Goals as goal

pub returns : goal.returns
returns c = keeps-take-the-cameras-seconds
