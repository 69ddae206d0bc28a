use Rattle.loop_pipeline.proofs.FrontRuns.{stirred}
use Rattle.loop_pipeline.proofs.FrameSteps.{refused-adds, take-adds}
use Rattle.loop_pipeline.proofs.front.Front.take.Goals as goal

pub invariant_of-self-in-Err : goal.invariant_of-self-in-Err
invariant_of-self-in-Err g c =
    let before = c.self.invariant in
    stirred g.S.FrameSource.next_gives g.P.PlaneMemory.plane _ _ _ _ _ _ _ _ _ _ _ _ _ _ _ _ before
    (refused-adds g.S.FrameSource.next_gives g.P.PlaneMemory.plane _ _ _ _ _ _ _ _ before.now c.in-Err.fault c.in-Err.ensures.shape before.free before.apart before.stands
    c.is_full.ensures.looked c.in-Err.ensures.turn)

pub invariant_of-self-in-Ok : goal.invariant_of-self-in-Ok
invariant_of-self-in-Ok g c =
    let before = c.self.invariant in
    stirred g.S.FrameSource.next_gives g.P.PlaneMemory.plane _ _ _ _ _ _ _ _ _ _ _ _ _ _ _ _ before
    (take-adds g.S.FrameSource.next_gives g.P.PlaneMemory.plane _ _ _ _ _ _ _ _ c.is_full.new.self _ _ before.now
    c.in-Ok.field-0 c.in-Ok.ensures.shape before.stands
    c.is_full.ensures.looked c.in-Ok.ensures.turn c.give.ensures.hand c.give.ensures.ring c.give.ensures.sent)
