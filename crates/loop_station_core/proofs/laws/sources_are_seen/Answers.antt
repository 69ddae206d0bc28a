use Rattle.loop_station_core.proofs.CameraLaws.{sources-seen}
use Rattle.loop_station_core.proofs.laws.sources_are_seen.Goals as goal

pub returns : goal.returns
returns c = sources-seen
