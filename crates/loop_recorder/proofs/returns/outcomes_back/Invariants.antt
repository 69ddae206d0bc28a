use Rattle.std.proofs.Common.{◌≡◌, ◌+◌, ◌++◌, All, length, map, vec_len}
use Rattle.std.specs.Vec.Iter.{into_iter_items, into_iter_len}
use Rattle.loop_recorder.specs.Recordings.{HoldsAll, StandsOutcome, outcome_left, outcome_rest, seen_filmed}
use Rattle.loop_recorder.proofs.returns.outcomes_back.Given as goal

abbrev pub invariant-loop-outcome : goal.invariant-loop-outcome
invariant-loop-outcome g l = record {
  count : vec_len l.returned.filmed + into_iter_len l.outcome-iterator ≡ vec_len l.fn.outcomes;
  left : into_iter_len l.outcome-iterator ≡ length (into_iter_items l.outcome-iterator);
  each : All (StandsOutcome g.P.PlaneMemory.plane) (into_iter_items l.outcome-iterator);
  room : HoldsAll (vec_len l.fn.outcomes) l.returned;
  rests : l.returned.rests.items ++ map outcome_rest (into_iter_items l.outcome-iterator)
      ≡ map outcome_rest l.fn.outcomes.items;
  filmed : map seen_filmed l.returned.filmed.items ++ map outcome_left (into_iter_items l.outcome-iterator)
      ≡ map outcome_left l.fn.outcomes.items;
}
