use Rattle.std.proofs.Common.{sym, subst}
use Rattle.loop_desk.specs.Parts.{CopiesFrame}
use Rattle.loop_desk.proofs.FrameBytes.{frame_given, frame_own}
use Rattle.loop_desk.proofs.frame.copy_frame.Goals as goal

pub returns-in-Some : goal.returns-in-Some
returns-in-Some g c =
    let m = g.P.PlaneMemory.plane in
    subst (λ p. CopiesFrame m c.args.queue.now c.args.index c.args.used.now p c.args.out.now c.copy_given.result c.copy_given.new.out) (sym c.in-Some.is)
    (frame_given m c.shape.result c.args.queue.now c.args.index c.args.used.now c.counts_of-counts.result
    c.in-Some.set c.args.out.now c.copy_given.result c.copy_given.new.out c.shape.ensures
    c.counts_of-counts.ensures c.copy_given.ensures)

pub returns-in-None : goal.returns-in-None
returns-in-None g c =
    let m = g.P.PlaneMemory.plane in
    subst (λ p. CopiesFrame m c.args.queue.now c.args.index c.args.used.now p c.args.out.now c.copy_own.result c.copy_own.new.out) (sym c.in-None.is)
    (frame_own m c.shape.result c.args.queue.now c.args.index c.args.used.now c.counts_of-counts.result c.args.out.now
    c.copy_own.result c.copy_own.new.out c.shape.ensures c.counts_of-counts.ensures c.copy_own.ensures)
