use Rattle.loop_station_core.proofs.LineLaws.{slow-told}
use Rattle.loop_station_core.proofs.laws.slow_disks_are_told.Goals as goal

pub returns : goal.returns
returns c = slow-told
