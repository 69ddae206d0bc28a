use Rattle.loop_station_core.proofs.OrderLaws.{orders-in-turn}
use Rattle.loop_station_core.proofs.laws.orders_are_handed_out.Goals as goal

pub returns : goal.returns
returns c = orders-in-turn
