use Rattle.loop_station_core.proofs.ReaderLaws.{orders-spare}
use Rattle.loop_station_core.proofs.laws.orders_spare_read_clips.Goals as goal

pub returns : goal.returns
returns c = orders-spare
