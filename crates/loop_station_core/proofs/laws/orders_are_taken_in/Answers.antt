use Rattle.loop_station_core.proofs.OrderLaws.{orders-taken}
use Rattle.loop_station_core.proofs.laws.orders_are_taken_in.Goals as goal

pub returns : goal.returns
returns c = orders-taken
