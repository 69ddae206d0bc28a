use Rattle.loop_station_core.proofs.ClockLaws.{medians-among}
use Rattle.loop_station_core.proofs.laws.medians_lie_among.Goals as goal

pub returns : goal.returns
returns c = medians-among
