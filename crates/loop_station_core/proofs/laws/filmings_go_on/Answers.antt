use Rattle.loop_station_core.proofs.CameraLaws.{filmings-on}
use Rattle.loop_station_core.proofs.laws.filmings_go_on.Goals as goal

pub returns : goal.returns
returns c = filmings-on
