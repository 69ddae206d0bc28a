use Rattle.loop_station_core.proofs.CameraLaws.{stops-for-good}
use Rattle.loop_station_core.proofs.laws.stops_are_for_good.Goals as goal

pub returns : goal.returns
returns c = stops-for-good
