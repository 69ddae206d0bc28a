use Rattle.loop_station_core.proofs.ReaderLaws.{saved-released}
use Rattle.loop_station_core.proofs.laws.saved_clips_are_released.Goals as goal

pub returns : goal.returns
returns c = saved-released
