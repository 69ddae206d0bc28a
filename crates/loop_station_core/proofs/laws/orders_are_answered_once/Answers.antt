use Rattle.loop_station_core.proofs.AnswerLaws.{answered-once}
use Rattle.loop_station_core.proofs.laws.orders_are_answered_once.Goals as goal

pub returns : goal.returns
returns c = λ given answers h. answered-once given answers h
