use Rattle.loop_station_core.proofs.SaveLaws.{releases-free}
use Rattle.loop_station_core.proofs.laws.releases_are_free.Goals as goal

pub returns : goal.returns
returns c = releases-free
