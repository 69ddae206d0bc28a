use Rattle.loop_station_core.proofs.ReaderLaws.{orders-release}
use Rattle.loop_station_core.proofs.laws.orders_release_unread_clips.Goals as goal

pub returns : goal.returns
returns c = orders-release
