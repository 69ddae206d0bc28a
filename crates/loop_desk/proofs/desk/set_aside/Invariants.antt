use Rattle.std.proofs.Common.{◌≡◌, drop}
use Rattle.circular_buffer.specs.Buffer.{buffer}
use Rattle.loop_desk.proofs.desk.set_aside.Given as goal

abbrev pub invariant-loop : goal.invariant-loop
invariant-loop g l = l.pending ≡ buffer (drop l.counter l.fn.pending.items) l.fn.pending.capacity
