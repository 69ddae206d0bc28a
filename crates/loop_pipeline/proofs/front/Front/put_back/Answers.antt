use Rattle.loop_pipeline.proofs.FrontRuns.{stirred}
use Rattle.loop_pipeline.proofs.FrameSteps.{put-adds}
use Rattle.loop_pipeline.proofs.front.Front.put_back.Goals as goal

pub invariant_of-self : goal.invariant_of-self
invariant_of-self g c =
    let before = c.self.invariant in
    stirred g.S.FrameSource.next_gives g.P.PlaneMemory.plane _ _ _ _ _ _ _ _ _ _ _ _ _ _ _ _ before
    (put-adds g.S.FrameSource.next_gives g.P.PlaneMemory.plane _ _ _ _ _ _ _ before.now c.requeue.result
    c.requeue.ensures.shape before.free before.apart before.stands c.requeue.ensures.turn)
