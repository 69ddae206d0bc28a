use Rattle.loop_station_core.proofs.LineLaws.{disk-told-once}
use Rattle.loop_station_core.proofs.laws.disks_are_told_once.Goals as goal

pub returns : goal.returns
returns c = disk-told-once
