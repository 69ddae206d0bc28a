use Rattle.loop_pipeline.proofs.FrontRuns.{begun}
use Rattle.loop_pipeline.proofs.front.Front.new.Goals as goal

pub invariant_of-result : goal.invariant_of-result
invariant_of-result g c =
    rw (c.of-queue_before.ensures, c.of-device_before.ensures, c.of-to_before.ensures, c.of-guide.ensures)
    (begun g.S.FrameSource.next_gives g.P.PlaneMemory.plane (g.G.Guide.due c.args.guide.now) (g.G.Guide.ends c.args.guide.now)
    c.args.queue c.args.table c.args.device c.args.to c.args.guide.now c.requires.ready c.requires.ring)
