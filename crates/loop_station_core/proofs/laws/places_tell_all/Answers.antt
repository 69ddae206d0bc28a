use Rattle.loop_station_core.proofs.SaveLaws.{places-tell-all}
use Rattle.loop_station_core.proofs.laws.places_tell_all.Goals as goal

pub returns : goal.returns
returns c = places-tell-all
