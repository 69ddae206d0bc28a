use Rattle.loop_station_core.proofs.FrameLaws.{lost-given-up}
use Rattle.loop_station_core.proofs.laws.lost_frames_were_given_up.Goals as goal

pub returns : goal.returns
returns c = lost-given-up
