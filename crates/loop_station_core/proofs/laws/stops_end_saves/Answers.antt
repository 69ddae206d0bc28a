use Rattle.loop_station_core.proofs.SaveLaws.{stops-end}
use Rattle.loop_station_core.proofs.laws.stops_end_saves.Goals as goal

pub returns : goal.returns
returns c = stops-end
