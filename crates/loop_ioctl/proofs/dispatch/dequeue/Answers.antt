use Rattle.std.proofs.Common.{ap}
use Rattle.loop_ioctl.proofs.LeavingPlanes.{lets_one_out, lets_none_out}
use Rattle.loop_ioctl.proofs.dispatch.dequeue.Goals as goal

pub returns-in-Ok-clause-step : goal.returns-in-Ok-clause-step
returns-in-Ok-clause-step g c =
    lets_one_out g.P.PlaneMemory.plane g.row.A.Denot c.in-Ok.answer
    (record c.in-Ok.answer { planes = c.let_out-planes.result }) c.kind-kind.result c.args.queue.now
    c.dequeue.new.self c.args.table.now c.let_out-planes.new.table
    c.kind-kind.ensures c.in-Ok.ensures.step (ap (λ p. record c.in-Ok.answer { planes = p }) c.let_out-planes.ensures.kept) c.let_out-planes.ensures.given

pub returns-in-Err-clause-step : goal.returns-in-Err-clause-step
returns-in-Err-clause-step g c =
    lets_none_out g.P.PlaneMemory.plane c.refuse.result c.in-Err.errno c.args.queue.now c.dequeue.new.self
    c.args.table.now c.refuse.ensures.errno c.refuse.ensures.back c.in-Err.ensures.step
