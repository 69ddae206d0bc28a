use Rattle.loop_station_core.proofs.LineLaws.{lost-soon}
use Rattle.loop_station_core.proofs.laws.lost_frames_are_told_soon.Goals as goal

pub returns : goal.returns
returns c = lost-soon
