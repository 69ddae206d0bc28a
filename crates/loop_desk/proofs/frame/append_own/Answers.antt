use Rattle.std.proofs.Common.{◌≡◌, ◌+◌, ◌-◌, take, drop, arith}
use Rattle.loop_desk.proofs.FrameBytes.{nothing_copied, mid_long}
use Rattle.loop_desk.proofs.frame.append_own.Goals as goal

pub returns-in-Err-clause-appends : goal.returns-in-Err-clause-appends
returns-in-Err-clause-appends g c =
    let k = c.args.at + c.args.most - c.args.at in
    let is : k ≡ c.args.most = omega arith in
    nothing_copied g.P.PlaneMemory.plane c.in-Err.field-0 c.args.queue.now c.args.index c.args.plane c.args.most
    c.args.at k (take k (drop c.args.at c.args.out.now)) c.copy_plane.new.out c.args.out.now
    c.in-Err.ensures.step c.in-Err.ensures.same (mid_long c.args.at k c.args.most c.args.out.now is c.requires) is c.requires
