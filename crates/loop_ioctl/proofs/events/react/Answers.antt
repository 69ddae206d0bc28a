use Rattle.std.proofs.Common.{sym, ap, subst, ◌∙◌, length}
use Rattle.std.specs.Result.{result_err}
use Rattle.loop_vb2.specs.Events.{Happens, complete}
use Rattle.loop_ioctl.specs.declared.events.QueueReply.TheVariants as answer
use Rattle.loop_ioctl.specs.Events.{Reacts}
use Rattle.loop_ioctl.proofs.Device.{complete_reacts, fail_reacts, whole_bytes}
use Rattle.loop_ioctl.proofs.events.react.Goals as goal

pub complete-requires : goal.complete-requires
complete-requires g c = record {
  whole = ap length c.deref.ensures.value ∙ whole_bytes c.args.queue.now.body.shape c.args.event c.in-Complete.index
      c.in-Complete.stamp c.in-Complete.bytes c.requires.whole c.in-Complete.is;
}

pub returns-in-Complete-clause-step : goal.returns-in-Complete-clause-step
returns-in-Complete-clause-step g c =
    let m = g.P.PlaneMemory.plane in
    subst (λ e. Reacts m e (answer.Ended c.complete.result) c.args.queue.now c.args.table.now c.complete.new.self c.args.table.now) (sym c.in-Complete.is)
    (complete_reacts g.row.A.Denot m c.in-Complete.index c.in-Complete.stamp c.in-Complete.bytes c.complete.result
    c.args.queue.now c.complete.new.self c.args.table.now
    (subst (λ l. Happens m c.args.queue.now c.complete.new.self
    (complete c.in-Complete.index c.in-Complete.stamp l (result_err c.complete.result))) c.deref.ensures.value
    c.complete.ensures.step))

pub returns-in-Fail-clause-step : goal.returns-in-Fail-clause-step
returns-in-Fail-clause-step g c =
    let m = g.P.PlaneMemory.plane in
    subst (λ e. Reacts m e (answer.Ended c.fail.result) c.args.queue.now c.args.table.now c.fail.new.self c.args.table.now) (sym c.in-Fail.is)
    (fail_reacts g.row.A.Denot m c.in-Fail.index c.in-Fail.stamp c.fail.result c.args.queue.now c.fail.new.self c.args.table.now c.fail.ensures.step)
