use Rattle.std.proofs.Common.{rules, None, Ok, refl}
use Rattle.loop_disk.proofs.Moments.{called_on}
use Rattle.loop_overlay.proofs.LogCalls.{carried_all, carried_failed, carried_none, carried_step, within_disk}
use Rattle.loop_overlay.proofs.carry.carry_out.Goals as goal

pub loop-call-init : goal.loop-call-init
loop-call-init g c = record {
  called = record { size = refl; honest = (λ honest. honest, λ honest. honest); failures = refl };
  carried = λ honest start fresh. carried_none (λ v. v.items) start c.args.calls.now _ fresh
      (g.met.D.Disk.sound c.args.disk.now honest);
}

pub carry_out_call-requires : goal.carry_out_call-requires
carry_out_call-requires g c =
    within_disk (λ v. v.items) _ _ c.args.calls.now c.loop-call.call-index c.call-item.result
    c.loop-call.invariant.called.size c.loop-call-test.true c.call-item.is c.requires

pub loop-call-preserved : goal.loop-call-preserved
loop-call-preserved g c =
    let here = c.loop-call.invariant in record {
      called = called_on _ _ _ None here.called c.in_ok-carry_out_call.ensures.called;
      carried = λ honest start fresh. carried_step (λ v. v.items) start c.args.calls.now c.loop-call.call-index
          c.call-item.result _ _ _ (Ok tt) (g.met.D.Disk.sound c.args.disk.now honest) fresh c.requires
          c.loop-call-test.true c.call-item.is (here.carried honest start fresh)
          (c.in_ok-carry_out_call.ensures.carries (here.called.honest.0 honest));
    }

pub returns-in_err-carry_out_call-clause-carried : goal.returns-in_err-carry_out_call-clause-carried
returns-in_err-carry_out_call-clause-carried g c = λ honest start fresh.
    let here = c.loop-call.invariant in
    carried_failed _ _ _ c.from_residual.result c.from_residual.ensures.0
    (carried_step (λ v. v.items) start c.args.calls.now c.loop-call.call-index c.call-item.result _ _ _
    c.carry_out_call.result (g.met.D.Disk.sound c.args.disk.now honest) fresh c.requires
    c.loop-call-test.true c.call-item.is (here.carried honest start fresh)
    (c.carry_out_call.ensures.carries (here.called.honest.0 honest))).1

pub returns-clause-carried : goal.returns-clause-carried
returns-clause-carried g c = λ honest start fresh.
    carried_all (λ v. v.items) start c.args.calls.now c.loop-call.call-index _ _ (search (rules))
    (c.loop-call.invariant.carried honest start fresh)
