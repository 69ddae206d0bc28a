use Rattle.loop_station_core.proofs.SaveLaws.{cancels-find}
use Rattle.loop_station_core.proofs.laws.cancels_find_their_save.Goals as goal

pub returns : goal.returns
returns c = cancels-find
