use Rattle.loop_desk.proofs.CompleteFrames.{whole_taken}
use Rattle.loop_desk.proofs.laws.whole_frames_are_taken.Goals as goal

pub returns : goal.returns
returns c = whole_taken
