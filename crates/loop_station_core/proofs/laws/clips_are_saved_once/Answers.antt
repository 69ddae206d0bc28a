use Rattle.loop_station_core.proofs.ItselfLaws.{clips-are-saved-once}
use Rattle.loop_station_core.proofs.laws.clips_are_saved_once.Goals as goal

pub returns : goal.returns
returns c = clips-are-saved-once
