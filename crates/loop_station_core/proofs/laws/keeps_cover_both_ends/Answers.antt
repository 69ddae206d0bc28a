use Rattle.loop_station_core.proofs.DecisionLaws.{keeps-cover-both-ends}
use Rattle.loop_station_core.proofs.laws.keeps_cover_both_ends.Goals as goal

pub returns : goal.returns
returns c = keeps-cover-both-ends
