use Rattle.loop_station_core.proofs.SaveEndLaws.{due-taken}
use Rattle.loop_station_core.proofs.laws.due_retries_are_taken.Goals as goal

pub returns : goal.returns
returns c = due-taken
