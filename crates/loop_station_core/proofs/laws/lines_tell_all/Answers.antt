use Rattle.loop_station_core.proofs.LineLaws.{lines-tell}
use Rattle.loop_station_core.proofs.laws.lines_tell_all.Goals as goal

pub returns : goal.returns
returns c = lines-tell
