use Rattle.std.proofs.Common.{◌≡◌, ◌-◌, ◌^◌, length, map, min, take}
use Rattle.loop_disk.specs.Crashing.{call_of}
use Rattle.lapyrei.specs.Bytes.{log_bytes}
use Rattle.lapyrei.proofs.bytes.log_length.Given as goal

abbrev pub invariant-loop-call : goal.invariant-loop-call
invariant-loop-call g l =
    l.total ≡ min (length (log_bytes (map (call_of (λ v. v.items)) (take l.call-index l.calls)))) (2 ^ 64 - 1)
