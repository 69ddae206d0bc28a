use Rattle.loop_station_core.proofs.CameraLaws.{opened-again}
use Rattle.loop_station_core.proofs.laws.stores_are_opened_again.Goals as goal

pub returns : goal.returns
returns c = opened-again
