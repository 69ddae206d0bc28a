use Rattle.loop_vb2.proofs.Places.{sets_are_in_one_place}
use Rattle.loop_vb2.proofs.laws.sets_are_in_one_place.Goals as goal

pub returns : goal.returns
returns c = sets_are_in_one_place
