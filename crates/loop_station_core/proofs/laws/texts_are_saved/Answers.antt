use Rattle.loop_station_core.proofs.TextLaws.{texts-saved}
use Rattle.loop_station_core.proofs.laws.texts_are_saved.Goals as goal

pub returns : goal.returns
returns c = texts-saved
