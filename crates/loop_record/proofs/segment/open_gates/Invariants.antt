use Rattle.std.proofs.Common.{◌≡◌, ℕ, ◌+◌, ◌<◌, true}
use Rattle.loop_record.specs.Layout.{is_open}
use Rattle.loop_record.proofs.segment.open_gates.Given as goal

abbrev pub invariant-loop-slot : goal.invariant-loop-slot
invariant-loop-slot l = (i : ℕ) → i < l.slot → is_open l.bytes (256 + i) ≡ true
