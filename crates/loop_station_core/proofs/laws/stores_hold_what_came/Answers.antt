use Rattle.loop_station_core.proofs.RoomLaws.{stores-hold-what-came}
use Rattle.loop_station_core.proofs.laws.stores_hold_what_came.Goals as goal

pub returns : goal.returns
returns c = stores-hold-what-came
