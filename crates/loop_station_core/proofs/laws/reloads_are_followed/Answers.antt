use Rattle.loop_station_core.proofs.ReloadLaws.{reloads-are-followed}
use Rattle.loop_station_core.proofs.laws.reloads_are_followed.Goals as goal

pub returns : goal.returns
returns c = reloads-are-followed
