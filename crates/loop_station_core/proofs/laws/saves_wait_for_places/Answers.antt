use Rattle.loop_station_core.proofs.PlaceLaws.{saves-wait}
use Rattle.loop_station_core.proofs.laws.saves_wait_for_places.Goals as goal

pub returns : goal.returns
returns c = saves-wait
