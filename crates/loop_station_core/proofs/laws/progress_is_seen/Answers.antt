use Rattle.loop_station_core.proofs.EndLaws.{progress-is-seen}
use Rattle.loop_station_core.proofs.laws.progress_is_seen.Goals as goal

pub returns : goal.returns
returns c = progress-is-seen
