use Rattle.loop_station_core.proofs.CameraLaws.{filmings-follow}
use Rattle.loop_station_core.proofs.laws.ended_filmings_go_on.Goals as goal

pub returns : goal.returns
returns c = filmings-follow
