use Rattle.std.proofs.Common.{◌≡◌, ◌≤◌, vec_len}
use Rattle.std.specs.Vec.{vec_capacity}
use Rattle.loop_commands.proofs.record.open_sources.Given as goal

abbrev pub invariant-loop : goal.invariant-loop
invariant-loop g l = record {
  count : vec_len l.sources ≡ l.counter;
  room : l.fn.count ≤ vec_capacity l.sources;
}
