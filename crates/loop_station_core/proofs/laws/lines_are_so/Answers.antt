use Rattle.loop_station_core.proofs.LineLaws.{lines-so}
use Rattle.loop_station_core.proofs.laws.lines_are_so.Goals as goal

pub returns : goal.returns
returns c = lines-so
