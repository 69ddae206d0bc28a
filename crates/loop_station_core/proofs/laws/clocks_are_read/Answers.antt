use Rattle.loop_station_core.proofs.ClockLaws.{clocks-read}
use Rattle.loop_station_core.proofs.laws.clocks_are_read.Goals as goal

pub returns : goal.returns
returns c = clocks-read
