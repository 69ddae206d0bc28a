use Rattle.loop_record.proofs.Form.{reading-well_formed}
use Rattle.loop_record.proofs.laws.readings_are_well_formed.Goals as goal

pub returns : goal.returns
returns c = reading-well_formed
