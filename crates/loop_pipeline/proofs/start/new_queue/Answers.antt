use Rattle.std.proofs.Common.{refl}
use Rattle.loop_pipeline.proofs.start.new_queue.Goals as goal

pub returns-clause-ready : goal.returns-clause-ready
returns-clause-ready g c = record {
  port = record { state = _; stands = c.new_queues_stand.ensures _ _ _ c.new-queue.ensures.state refl };
  regular = record {
    state = _;
    stands = c.new-queue.ensures.state;
    sound = c.queues_stay_sound.ensures.new _ _ c.new-queue.ensures.state refl;
    shaped = (_, _, _, c.new-queue.ensures.shape);
  };
}
