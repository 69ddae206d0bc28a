use Rattle.loop_station_core.proofs.SaveEndLaws.{tried-when-due}
use Rattle.loop_station_core.proofs.laws.retries_are_due.Goals as goal

pub returns : goal.returns
returns c = tried-when-due
