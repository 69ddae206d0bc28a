use Rattle.loop_station_core.proofs.CameraLaws.{silent-wait}
use Rattle.loop_station_core.proofs.laws.silent_sources_wait.Goals as goal

pub returns : goal.returns
returns c = silent-wait
