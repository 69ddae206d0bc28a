use Rattle.loop_station_core.proofs.ReleaseLaws.{releases-earned}
use Rattle.loop_station_core.proofs.laws.releases_are_earned.Goals as goal

pub returns : goal.returns
returns c = releases-earned
