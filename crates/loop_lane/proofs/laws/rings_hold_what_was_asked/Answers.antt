use Rattle.loop_lane.proofs.NewestHeld.{rings-hold}
use Rattle.loop_lane.proofs.laws.rings_hold_what_was_asked.Goals as goal

pub returns : goal.returns
returns c = rings-hold
