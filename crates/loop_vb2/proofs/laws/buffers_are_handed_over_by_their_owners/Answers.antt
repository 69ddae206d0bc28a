use Rattle.loop_vb2.proofs.Owners.{handed_over_by_owners}
use Rattle.loop_vb2.proofs.laws.buffers_are_handed_over_by_their_owners.Goals as goal

pub returns : goal.returns
returns c = handed_over_by_owners
