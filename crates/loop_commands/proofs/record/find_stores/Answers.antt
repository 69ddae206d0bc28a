use Rattle.std.proofs.Common.{[], ap, arith, length, subst, sym}
use Rattle.loop_commands.specs.Recorded.{AreOpened}
use Rattle.loop_commands.proofs.Recordings.{all-opened, one-opened}
use Rattle.loop_commands.proofs.record.find_stores.Goals as goal

pub loop-disk-init : goal.loop-disk-init
loop-disk-init g c =
    let gives = c.into_iter-disk-iterator.ensures.into_iter_gives in
    let made = c.in_ok-stores.ensures in
    record {
      count = omega (arith, made.len, gives.1, c.args.disks.ok.0);
      room = omega (arith, made.capacity, c.len.ensures, c.args.disks.ok.0);
      left = omega (arith, gives.1, ap length gives.0, c.args.disks.ok.0);
      opened = ([], gives.0, subst (λ l. AreOpened g.D.Disk.medium c.args.keep [] l) (sym made.items) tt);
    }

pub loop-disk-preserved : goal.loop-disk-preserved
loop-disk-preserved g c =
    let so = c.loop-disk.invariant in
    let steps = c.in-Some.ensures.steps in
    let push = c.push_reserved.ensures in
    record {
      count = omega (arith, steps.1, push.len, so.count);
      room = omega (arith, push.capacity, so.room);
      left = omega (arith, steps.1, ap length steps.0, so.left);
      opened =
          one-opened g.D.Disk.medium c.args.keep _ _ _ _ _ _ _ steps.0 push.items c.in-Ok.ensures so.opened;
    }

pub returns-clause-opened : goal.returns-clause-opened
returns-clause-opened g c =
    let at = c.loop-disk in
    all-opened g.D.Disk.medium c.args.keep _ _ _ _ at.invariant.left c.in-None.ensures.steps.0 at.invariant.opened
