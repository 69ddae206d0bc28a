use Rattle.loop_station_core.proofs.ReaderLaws.{leaves-unread}
use Rattle.loop_station_core.proofs.laws.leaves_are_for_unread_clips.Goals as goal

pub returns : goal.returns
returns c = leaves-unread
