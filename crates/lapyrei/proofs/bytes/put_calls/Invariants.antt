use Rattle.std.proofs.Common.{◌≡◌, length, map, take}
use Rattle.loop_disk.specs.Crashing.{call_of}
use Rattle.lapyrei.specs.Bytes.{log_bytes}
use Rattle.lapyrei.proofs.bytes.put_calls.Given as goal

abbrev pub invariant-loop-call : goal.invariant-loop-call
invariant-loop-call g l = record {
  size : length l.log ≡ length l.fn.log;
  end : l.end ≡ length (log_bytes (map (call_of (λ v. v.items)) (take l.call-index l.calls)));
  entries : take l.end l.log ≡ log_bytes (map (call_of (λ v. v.items)) (take l.call-index l.calls));
}
