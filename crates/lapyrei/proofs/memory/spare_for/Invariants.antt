use Rattle.std.proofs.Common.{◌≡◌, ◌≤◌, All, vec_len}
use Rattle.std.specs.Vec.{vec_capacity}
use Rattle.lapyrei.specs.Memory.{IsSpare}
use Rattle.lapyrei.proofs.memory.spare_for.Given as goal

abbrev pub invariant-loop : goal.invariant-loop
invariant-loop l = record {
  count : vec_len l.spare ≡ l.counter;
  room : l.fn.count ≤ vec_capacity l.spare;
  each : All (IsSpare l.fn.size) l.spare.items;
}
