use Rattle.loop_station_core.proofs.FrameLaws.{frames-add-up}
use Rattle.loop_station_core.proofs.laws.frames_add_up.Goals as goal

pub returns : goal.returns
returns c = frames-add-up
