use Rattle.loop_station_core.proofs.SearchLaws.{looks-at-all}
use Rattle.loop_station_core.proofs.laws.searches_look_at_all.Goals as goal

pub returns : goal.returns
returns c = looks-at-all
