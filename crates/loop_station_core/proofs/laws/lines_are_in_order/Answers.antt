use Rattle.loop_station_core.proofs.TellingLaws.{lines-in-order}
use Rattle.loop_station_core.proofs.laws.lines_are_in_order.Goals as goal

pub returns : goal.returns
returns c = lines-in-order
