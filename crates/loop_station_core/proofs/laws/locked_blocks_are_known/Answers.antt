use Rattle.loop_station_core.proofs.CameraLaws.{locked-known}
use Rattle.loop_station_core.proofs.laws.locked_blocks_are_known.Goals as goal

pub returns : goal.returns
returns c = locked-known
