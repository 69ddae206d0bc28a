use Rattle.loop_desk.proofs.QueueFrames.{queues-stay-sound}
use Rattle.loop_desk.proofs.laws.queues_stay_sound.Goals as goal

pub returns : goal.returns
returns g c = queues-stay-sound g.P.PlaneMemory.plane
