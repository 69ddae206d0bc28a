use Rattle.std.proofs.Common.{◌≡◌, true, subst, sym, Err, rules}
use Rattle.loop_ioctl.specs.Names.{TakesPlace}
use Rattle.loop_ioctl.proofs.Names.{took_some, took_fails}
use Rattle.loop_ioctl.proofs.fds.take_place.Goals as goal

pub returns-in-Ok : goal.returns-in-Ok
returns-in-Ok g c =
    let due : c.args.due ≡ true = search rules in
    took_some c.args.due c.args.fd c.in-Ok.plane c.args.table.now c.attach.new.self due c.in-Ok.ensures.value c.in-Ok.ensures.ok

pub returns-in-Err : goal.returns-in-Err
returns-in-Err g c =
    let due : c.args.due ≡ true = search rules in
    subst (λ reason. TakesPlace c.args.due c.args.fd (Err reason) c.args.table.now c.attach.new.self) (sym c.reason_of.ensures)
    (took_fails c.args.due c.args.fd c.in-Err.fault c.args.table.now c.attach.new.self due c.in-Err.ensures.fault c.in-Err.ensures.same)
