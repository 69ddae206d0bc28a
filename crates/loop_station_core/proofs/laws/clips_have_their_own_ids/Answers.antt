use Rattle.loop_station_core.proofs.DecisionLaws.{clips-have-their-own-ids}
use Rattle.loop_station_core.proofs.laws.clips_have_their_own_ids.Goals as goal

pub returns : goal.returns
returns c = clips-have-their-own-ids
