use Rattle.loop_station_core.proofs.ReaderLaws.{saved-free}
use Rattle.loop_station_core.proofs.laws.unread_saved_clips_are_released.Goals as goal

pub returns : goal.returns
returns c = saved-free
