use Rattle.loop_station_core.proofs.CameraLaws.{locked-wait}
use Rattle.loop_station_core.proofs.laws.locked_filmings_wait.Goals as goal

pub returns : goal.returns
returns c = locked-wait
