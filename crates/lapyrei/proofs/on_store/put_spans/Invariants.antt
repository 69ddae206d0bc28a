use Rattle.std.proofs.Common.{◌≡◌, map, take}
use Rattle.lapyrei.specs.Shown.{span_run, put_over}
use Rattle.lapyrei.proofs.on_store.put_spans.Given as goal

abbrev pub invariant-loop-i : goal.invariant-loop-i
invariant-loop-i l = l.out ≡ put_over (map span_run (take l.i l.spans)) l.fn.out
