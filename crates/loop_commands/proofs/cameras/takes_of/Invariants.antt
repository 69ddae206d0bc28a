use Rattle.std.proofs.Common.{◌≡◌, ◌+◌, ◌++◌, ◌≤◌, Some, length, map, vec_len}
use Rattle.std.specs.Vec.{vec_capacity}
use Rattle.std.specs.Vec.Iter.{into_iter_items, into_iter_len}
use Rattle.loop_commands.specs.declared.cameras.Take.{Take}
use Rattle.loop_commands.specs.Recorded.{taken_of}
use Rattle.loop_commands.proofs.cameras.takes_of.Given as goal

abbrev pub invariant-loop-outcome : goal.invariant-loop-outcome
invariant-loop-outcome l = record {
  left : into_iter_len l.outcome-iterator ≡ length (into_iter_items l.outcome-iterator);
  room : vec_len l.takes + into_iter_len l.outcome-iterator ≤ vec_capacity l.takes;
  told : map (λ (take : Take). Some take) l.takes.items ++ map taken_of (into_iter_items l.outcome-iterator)
      ≡ map taken_of l.fn.outcomes.items;
}
