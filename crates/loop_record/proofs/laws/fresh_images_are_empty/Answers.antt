use Rattle.loop_record.proofs.Fresh.{reading-fresh}
use Rattle.loop_record.proofs.laws.fresh_images_are_empty.Goals as goal

pub returns : goal.returns
returns c = reading-fresh
