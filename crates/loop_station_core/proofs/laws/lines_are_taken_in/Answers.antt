use Rattle.loop_station_core.proofs.TellingLaws.{lines-taken}
use Rattle.loop_station_core.proofs.laws.lines_are_taken_in.Goals as goal

pub returns : goal.returns
returns c = lines-taken
