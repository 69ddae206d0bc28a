use Rattle.loop_station_core.proofs.TextLaws.{saved-there}
use Rattle.loop_station_core.proofs.laws.saved_texts_are_there.Goals as goal

pub returns : goal.returns
returns c = saved-there
