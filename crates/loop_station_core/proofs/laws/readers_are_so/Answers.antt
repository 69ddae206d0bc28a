use Rattle.loop_station_core.proofs.SaveLaws.{readers-so}
use Rattle.loop_station_core.proofs.laws.readers_are_so.Goals as goal

pub returns : goal.returns
returns c = readers-so
