use Rattle.loop_station_core.proofs.LineLaws.{first-tell}
use Rattle.loop_station_core.proofs.laws.first_looks_tell_all.Goals as goal

pub returns : goal.returns
returns c = first-tell
