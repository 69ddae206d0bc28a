use Rattle.loop_station_core.proofs.LineLaws.{told-twice}
use Rattle.loop_station_core.proofs.laws.nothing_is_told_twice.Goals as goal

pub returns : goal.returns
returns c = told-twice
