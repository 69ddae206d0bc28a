use Rattle.loop_station_core.proofs.LineLaws.{locked-tell}
use Rattle.loop_station_core.proofs.laws.locked_lines_tell_all.Goals as goal

pub returns : goal.returns
returns c = locked-tell
