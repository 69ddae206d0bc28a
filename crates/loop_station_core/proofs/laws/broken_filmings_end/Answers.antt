use Rattle.loop_station_core.proofs.CameraLaws.{broken-end}
use Rattle.loop_station_core.proofs.laws.broken_filmings_end.Goals as goal

pub returns : goal.returns
returns c = broken-end
