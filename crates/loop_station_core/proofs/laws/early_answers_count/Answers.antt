use Rattle.loop_station_core.proofs.AnswerLaws.{early-counts}
use Rattle.loop_station_core.proofs.laws.early_answers_count.Goals as goal

pub returns : goal.returns
returns c = early-counts
