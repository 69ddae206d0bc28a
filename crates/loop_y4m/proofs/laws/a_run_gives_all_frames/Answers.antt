use Rattle.loop_y4m.proofs.Frames.{run_read}
use Rattle.loop_y4m.proofs.laws.a_run_gives_all_frames.Goals as goal

pub returns : goal.returns
returns c = run_read
