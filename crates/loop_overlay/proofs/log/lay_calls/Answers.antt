use Rattle.std.proofs.Common.{rules, List, ◌∙◌, map, take, subst}
use Rattle.std.proofs.lemmas.List.{take_all}
use Rattle.loop_disk.specs.declared.crash.DeviceCall.{DeviceCall}
use Rattle.loop_disk.specs.Crashing.{call_of, moment_after}
use Rattle.loop_disk.specs.History.{Moment}
use Rattle.loop_disk.proofs.CrashCalls.{turned, within-at}
use Rattle.loop_overlay.specs.Parts.{IsBufferOf}
use Rattle.loop_overlay.proofs.LogCalls.{length-moment}
use Rattle.loop_overlay.proofs.log.lay_calls.Goals as goal

pub loop-call-preserved : goal.loop-call-preserved
loop-call-preserved g c =
    let k = c.loop-call.call-index in
    let calls = c.args.calls.now in record {
      laid = λ start within part.
          let m = moment_after start (map (call_of (λ v. v.items)) (take k calls)) in
          subst (λ (n : Moment). IsBufferOf c.args.at n.bytes c.lay_call.new.buf)
          (turned (λ v. v.items) start calls k c.call-item.result c.loop-call-test.true c.call-item.is)
          (c.lay_call.ensures.laid m
          (within-at (λ v. v.items) _ m.bytes calls k c.call-item.result
          (length-moment (λ v. v.items) start calls k within) c.loop-call-test.true c.call-item.is within)
          (c.loop-call.invariant.laid start within part));
      size = c.lay_call.ensures.size ∙ c.loop-call.invariant.size;
    }

pub returns-clause-laid : goal.returns-clause-laid
returns-clause-laid g c = λ start within part.
    subst (λ (l : List (DeviceCall _)). IsBufferOf c.args.at (moment_after start (map (call_of (λ v. v.items)) l)).bytes
    c.loop-call.buf)
    (take_all c.loop-call.call-index c.args.calls.now (search (rules)))
    (c.loop-call.invariant.laid start within part)
