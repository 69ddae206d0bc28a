use Rattle.loop_station_core.proofs.FullLaws.{allowed-clips-go}
use Rattle.loop_station_core.proofs.laws.allowed_clips_go.Goals as goal

pub returns : goal.returns
returns c = allowed-clips-go
