use Rattle.loop_station_core.proofs.KeepLaws.{keeps-have-all}
use Rattle.loop_station_core.proofs.laws.keeps_have_all.Goals as goal

pub returns : goal.returns
returns c = keeps-have-all
