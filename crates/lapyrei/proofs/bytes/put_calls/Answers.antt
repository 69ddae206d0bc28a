use Rattle.std.proofs.Common.{rules, ℕ, ◌+◌, List, ◌++◌, ◌∙◌, length, map, take, ap, sym, arith, length-append}
use Rattle.std.proofs.lemmas.List.{take_all}
use Rattle.loop_disk.specs.declared.crash.DeviceCall.{DeviceCall}
use Rattle.loop_disk.specs.Crashing.{call_of}
use Rattle.lapyrei.specs.Bytes.{call_bytes, log_bytes}
use Rattle.lapyrei.proofs.LogBytes.{bytes_more, first_fit}
use Rattle.lapyrei.proofs.bytes.put_calls.Goals as goal

pub put_call-end-requires : goal.put_call-end-requires
put_call-end-requires g c =
    let before = log_bytes (map (call_of (λ v. v.items)) (take c.loop-call.call-index c.args.calls.now)) in
    let one = call_bytes (call_of (λ v. v.items) c.call-item.result) in
    let more = ap (λ (l : List ℕ). length l) (bytes_more (λ v. v.items) c.args.calls.now c.loop-call.call-index
    c.call-item.result c.loop-call-test.true c.call-item.is) in
    omega (
      arith,
      c.loop-call.invariant.end,
      c.loop-call.invariant.size,
      c.requires,
      more,
      length-append before one,
      first_fit (call_of (λ v. v.items)) c.args.calls.now (c.loop-call.call-index + 1),
    )

pub loop-call-preserved : goal.loop-call-preserved
loop-call-preserved g c =
    let here = c.loop-call.invariant in
    let before = log_bytes (map (call_of (λ v. v.items)) (take c.loop-call.call-index c.args.calls.now)) in
    let one = call_bytes (call_of (λ v. v.items) c.call-item.result) in
    let more = bytes_more (λ v. v.items) c.args.calls.now c.loop-call.call-index c.call-item.result c.loop-call-test.true
    c.call-item.is in record {
      size = omega (arith, c.put_call-end.ensures.size, here.size);
      end = c.put_call-end.ensures.end ∙ omega (arith, here.end, length-append before one)
          ∙ ap (λ (l : List ℕ). length l) (sym more);
      entries = c.put_call-end.ensures.entry ∙ ap (λ (l : List ℕ). l ++ one) here.entries ∙ sym more;
    }

pub returns-clause-end : goal.returns-clause-end
returns-clause-end g c =
    c.loop-call.invariant.end ∙ ap (λ (l : List (DeviceCall _)). length (log_bytes (map (call_of (λ v. v.items)) l)))
    (take_all c.loop-call.call-index c.args.calls.now (search (rules)))

pub returns-clause-entries : goal.returns-clause-entries
returns-clause-entries g c =
    c.loop-call.invariant.entries ∙ ap (λ (l : List (DeviceCall _)). log_bytes (map (call_of (λ v. v.items)) l))
    (take_all c.loop-call.call-index c.args.calls.now (search (rules)))
