use Rattle.loop_station_core.proofs.RoomLaws.{idle-cameras-are-done}
use Rattle.loop_station_core.proofs.laws.idle_cameras_are_done.Goals as goal

pub returns : goal.returns
returns c = idle-cameras-are-done
