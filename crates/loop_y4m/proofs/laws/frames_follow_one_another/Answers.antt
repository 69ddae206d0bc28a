use Rattle.loop_y4m.proofs.Frames.{frames_step}
use Rattle.loop_y4m.proofs.laws.frames_follow_one_another.Goals as goal

pub returns : goal.returns
returns c = frames_step
