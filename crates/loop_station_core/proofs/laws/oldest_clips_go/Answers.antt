use Rattle.loop_station_core.proofs.FullLaws.{oldest-clips-go}
use Rattle.loop_station_core.proofs.laws.oldest_clips_go.Goals as goal

pub returns : goal.returns
returns c = oldest-clips-go
