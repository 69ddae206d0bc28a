use Rattle.loop_station_core.proofs.ClockLaws.{steps-heard}
use Rattle.loop_station_core.proofs.laws.steps_are_heard.Goals as goal

pub returns : goal.returns
returns c = steps-heard
