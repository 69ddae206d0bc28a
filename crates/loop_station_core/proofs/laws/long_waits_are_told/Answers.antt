use Rattle.loop_station_core.proofs.LineLaws.{waits-told}
use Rattle.loop_station_core.proofs.laws.long_waits_are_told.Goals as goal

pub returns : goal.returns
returns c = waits-told
