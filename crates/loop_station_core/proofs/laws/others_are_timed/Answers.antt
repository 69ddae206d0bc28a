use Rattle.loop_station_core.proofs.NewestLaws.{others-timed}
use Rattle.loop_station_core.proofs.laws.others_are_timed.Goals as goal

pub returns : goal.returns
returns c = others-timed
