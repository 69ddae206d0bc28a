use Rattle.std.proofs.Common.{subst, sym}
use Rattle.loop_ioctl.specs.Names.{GivesBack, value_with_fd}
use Rattle.loop_ioctl.proofs.Names.{gave}
use Rattle.loop_ioctl.proofs.fds.give_place.Goals as goal

pub returns-in-Some : goal.returns-in-Some
returns-in-Some g c =
    subst (λ p. GivesBack (value_with_fd c.args.fd p) c.args.table.now c.detach.new.self) (sym c.in-Some.is)
    (gave c.args.fd c.in-Some.plane c.args.table.now c.detach.new.self c.detach.result c.detach.ensures.ok c.detach.ensures.fault)
