use Rattle.loop_station_core.proofs.DecisionLaws.{ids-are-those-of-the-file}
use Rattle.loop_station_core.proofs.laws.ids_are_those_of_the_file.Goals as goal

pub returns : goal.returns
returns c = ids-are-those-of-the-file
