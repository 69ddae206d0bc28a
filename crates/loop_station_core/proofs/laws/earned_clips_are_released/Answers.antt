use Rattle.loop_station_core.proofs.EarnedLaws.{earned-released}
use Rattle.loop_station_core.proofs.laws.earned_clips_are_released.Goals as goal

pub returns : goal.returns
returns c = earned-released
