use Rattle.loop_station_core.proofs.TimeLaws.{times-sources}
use Rattle.loop_station_core.proofs.laws.times_are_the_sources.Goals as goal

pub returns : goal.returns
returns c = times-sources
