use Rattle.std.proofs.Common.{◌≡◌, ◌+◌, ◌++◌, ◌≤◌, map, vec_len}
use Rattle.std.specs.Vec.{vec_capacity}
use Rattle.std.specs.Vec.Iter.{into_iter_items, into_iter_len}
use Rattle.loop_pipeline.specs.Notes.{pass_number}
use Rattle.loop_recorder.proofs.running.with_copies.Given as goal

abbrev pub invariant-loop-pass : goal.invariant-loop-pass
invariant-loop-pass l = record {
  room : vec_len l.list + into_iter_len l.pass-iterator ≤ vec_capacity l.list;
  numbers : map pass_number l.list.items ++ map pass_number (into_iter_items l.pass-iterator)
      ≡ map pass_number l.fn.passes.items;
}
