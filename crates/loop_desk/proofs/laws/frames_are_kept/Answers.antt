use Rattle.loop_desk.proofs.QueueFrames.{frames-are-kept}
use Rattle.loop_desk.proofs.laws.frames_are_kept.Goals as goal

pub returns : goal.returns
returns g c = frames-are-kept g.P.PlaneMemory.plane
