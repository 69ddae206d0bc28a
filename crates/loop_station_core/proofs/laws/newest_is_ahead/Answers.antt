use Rattle.loop_station_core.proofs.NewestLaws.{newest-ahead}
use Rattle.loop_station_core.proofs.laws.newest_is_ahead.Goals as goal

pub returns : goal.returns
returns c = newest-ahead
