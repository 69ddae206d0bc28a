use Rattle.loop_station_core.proofs.CameraLaws.{cameras-end}
use Rattle.loop_station_core.proofs.laws.cameras_end_with_the_program.Goals as goal

pub returns : goal.returns
returns c = cameras-end
