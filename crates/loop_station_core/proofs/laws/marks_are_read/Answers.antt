use Rattle.loop_station_core.proofs.MarkLaws.{read}
use Rattle.loop_station_core.proofs.laws.marks_are_read.Goals as goal

pub returns : goal.returns
returns c = read
