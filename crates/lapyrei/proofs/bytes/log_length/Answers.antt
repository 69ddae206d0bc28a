use Rattle.std.proofs.Common.{rules, ℕ, List, ◌∙◌, ◌-◌, ◌^◌, length, map, min, take, ap, arith, length-append}
use Rattle.std.proofs.lemmas.List.{take_all}
use Rattle.loop_disk.specs.declared.crash.DeviceCall.{DeviceCall}
use Rattle.loop_disk.specs.Crashing.{call_of}
use Rattle.lapyrei.specs.Bytes.{call_bytes, log_bytes}
use Rattle.lapyrei.proofs.LogBytes.{bytes_more}
use Rattle.lapyrei.proofs.bytes.log_length.Goals as goal

pub loop-call-preserved : goal.loop-call-preserved
loop-call-preserved g c =
    let before = log_bytes (map (call_of (λ v. v.items)) (take c.loop-call.call-index c.args.calls.now)) in
    let one = call_bytes (call_of (λ v. v.items) c.call-item.result) in
    let more = ap (λ (l : List ℕ). length l) (bytes_more (λ v. v.items) c.args.calls.now c.loop-call.call-index
    c.call-item.result c.loop-call-test.true c.call-item.is) in
    omega (arith, c.saturating_add-total.ensures, c.call_length.ensures, c.loop-call.invariant, more, length-append before one)

pub returns : goal.returns
returns g c =
    c.loop-call.invariant ∙ ap (λ (l : List (DeviceCall _)). min (length (log_bytes (map (call_of (λ v. v.items)) l))) (2 ^ 64 - 1))
    (take_all c.loop-call.call-index c.args.calls.now (search (rules)))
