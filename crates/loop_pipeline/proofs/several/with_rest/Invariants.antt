use Rattle.std.proofs.Common.{◌≡◌, ◌+◌, ◌++◌, ◌≤◌, All, false, length, map, vec_len}
use Rattle.std.specs.Vec.{vec_capacity}
use Rattle.std.specs.Vec.Iter.{into_iter_items, into_iter_len}
use Rattle.loop_pipeline.specs.Several.{IsOutcome, shot_of}
use Rattle.loop_pipeline.proofs.several.with_rest.Given as goal

abbrev pub invariant-loop-shot : goal.invariant-loop-shot
invariant-loop-shot g l = record {
  room : vec_len l.outcomes + into_iter_len l.shot-iterator ≤ vec_capacity l.outcomes;
  left : into_iter_len l.shot-iterator ≡ length (into_iter_items l.shot-iterator);
  shots : map shot_of l.outcomes.items ++ into_iter_items l.shot-iterator
      ≡ map shot_of l.fn.outcomes.items ++ l.fn.rest.items;
  each : All (IsOutcome g.D.Disk.medium g.S.FrameSource.next_gives g.P.PlaneMemory.plane g.G.Visits.asks
      g.G.Visits.gives_up (g.G.Noting.NOTED ≡ false) g.G.Guide.due g.G.Guide.ends) l.outcomes.items;
}
