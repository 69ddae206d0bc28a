use Rattle.std.proofs.Common.{◌∙◌, map, take, subst}
use Rattle.loop_disk.specs.History.{Moment}
use Rattle.loop_disk.specs.Crashing.{call_of, moment_after}
use Rattle.loop_disk.specs.Replay.{IsReplayed}
use Rattle.loop_disk.proofs.CrashCalls.{within-at, turned}
use Rattle.loop_disk.proofs.crash.replay.Goals as goal

pub replay_call-requires-clause-within : goal.replay_call-requires-clause-within
replay_call-requires-clause-within g c =
    within-at (λ v. v.items) _ c.loop-call.bytes.items c.args.calls.now c.loop-call.call-index c.call-item.result
    c.loop-call.invariant.size c.loop-call-test.true c.call-item.is c.requires.within

pub loop-call-preserved : goal.loop-call-preserved
loop-call-preserved g c =
    let here = c.loop-call.invariant in record {
      replayed = subst (λ (m : Moment). IsReplayed c.args.spoil m c.replay_call.new.bytes.items c.replay_call.new.image.items)
          (turned (λ v. v.items) c.args.bytes.now.items c.args.calls.now c.loop-call.call-index c.call-item.result c.loop-call-test.true c.call-item.is)
          (c.replay_call.ensures.replayed
          (moment_after c.args.bytes.now.items
          (map (call_of (λ v. v.items)) (take c.loop-call.call-index c.args.calls.now))) here.replayed);
      size = c.replay_call.ensures.size ∙ here.size;
      image_size = c.replay_call.ensures.image_size ∙ here.image_size;
    }
