use Rattle.std.proofs.Common.{◌≡◌, ◌+◌, ◌++◌, length, map, vec_len}
use Rattle.std.specs.Vec.Iter.{into_iter_items, into_iter_len}
use Rattle.loop_recorder.specs.Recordings.{HoldsAll, seen_filmed, shot_left, shot_rest}
use Rattle.loop_recorder.proofs.returns.shots_back.Given as goal

abbrev pub invariant-loop-shot : goal.invariant-loop-shot
invariant-loop-shot g l = record {
  count : vec_len l.returned.filmed + into_iter_len l.shot-iterator ≡ vec_len l.fn.shots;
  left : into_iter_len l.shot-iterator ≡ length (into_iter_items l.shot-iterator);
  room : HoldsAll (vec_len l.fn.shots) l.returned;
  rests : l.returned.rests.items ++ map shot_rest (into_iter_items l.shot-iterator) ≡ map shot_rest l.fn.shots.items;
  filmed : map seen_filmed l.returned.filmed.items ++ map shot_left (into_iter_items l.shot-iterator)
      ≡ map shot_left l.fn.shots.items;
}
