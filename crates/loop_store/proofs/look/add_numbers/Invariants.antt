use Rattle.std.proofs.Common.{◌≡◌, ◌*◌, ◌++◌, vec_capacity}
use Rattle.std.specs.List.{range_with_len}
use Rattle.loop_store.proofs.look.add_numbers.Given as goal

abbrev pub invariant-loop-slot : goal.invariant-loop-slot
invariant-loop-slot g l = record {
  items : l.numbers.items ≡ l.fn.numbers.items ++ range_with_len (l.fn.found.block * l.geometry.slots) l.slot;
  room : vec_capacity l.numbers ≡ vec_capacity l.fn.numbers;
}
