use Rattle.loop_station_core.proofs.CameraLaws.{silence-seen}
use Rattle.loop_station_core.proofs.laws.silence_is_seen.Goals as goal

pub returns : goal.returns
returns c = silence-seen
