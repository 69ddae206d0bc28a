use Rattle.std.proofs.Common.{ap, refl, None}
use Rattle.loop_ioctl.proofs.LeavingPlanes.{replaces, replaces_not}
use Rattle.loop_ioctl.proofs.dispatch.request.Goals as goal

pub returns-in-Ok-clause-step : goal.returns-in-Ok-clause-step
returns-in-Ok-clause-step g c =
    replaces g.P.PlaneMemory.plane c.in-Ok.granted
    (record { count = c.in-Ok.granted.count; left = c.let_all_out-left.result }) c.kind-kind.result c.args.memory
    c.args.count c.args.supply c.args.queue.now c.request.new.self c.args.table.now c.let_all_out-left.new.table
    c.kind-kind.ensures c.in-Ok.ensures.step refl c.let_all_out-left.ensures.kept c.let_all_out-left.ensures.given

pub returns-in-Err-clause-step : goal.returns-in-Err-clause-step
returns-in-Err-clause-step g c =
    replaces_not g.P.PlaneMemory.plane c.in-Err.refused
    (record { errno = c.in-Err.refused.errno; planes = None; supply = c.in-Err.refused.supply }) c.args.memory
    c.args.count c.args.supply c.args.queue.now c.request.new.self c.args.table.now
    refl (refl, ap (λ v. v.items) c.in-Err.ensures.back) c.in-Err.ensures.step
