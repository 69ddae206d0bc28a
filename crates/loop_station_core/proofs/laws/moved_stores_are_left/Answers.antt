use Rattle.loop_station_core.proofs.CameraLaws.{moved-left}
use Rattle.loop_station_core.proofs.laws.moved_stores_are_left.Goals as goal

pub returns : goal.returns
returns c = moved-left
