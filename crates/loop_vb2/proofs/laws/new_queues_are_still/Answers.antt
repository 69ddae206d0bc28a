use Rattle.loop_vb2.proofs.FrameOrder.{new_queues_are_still}
use Rattle.loop_vb2.proofs.laws.new_queues_are_still.Goals as goal

pub returns : goal.returns
returns g c = new_queues_are_still g.P.PlaneMemory.plane
