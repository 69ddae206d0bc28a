use Rattle.loop_station_core.proofs.CameraLaws.{offers-answered}
use Rattle.loop_station_core.proofs.laws.offers_are_answered.Goals as goal

pub returns : goal.returns
returns c = offers-answered
