use Rattle.loop_vb2.proofs.FrameOrder.{dequeued_in_order}
use Rattle.loop_vb2.proofs.laws.buffers_are_dequeued_in_order.Goals as goal

pub returns : goal.returns
returns c = dequeued_in_order
