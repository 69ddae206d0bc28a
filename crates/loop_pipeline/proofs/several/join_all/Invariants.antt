use Rattle.std.proofs.Common.{◌≡◌, ◌+◌, ◌++◌, All, false, length, map, vec_len}
use Rattle.std.specs.Vec.{vec_capacity}
use Rattle.std.specs.Vec.Iter.{into_iter_items, into_iter_len}
use Rattle.loop_pipeline.specs.Several.{IsOutcome, IsRunning, shot_in, shot_of}
use Rattle.loop_pipeline.proofs.several.join_all.Given as goal

abbrev pub invariant-loop-running : goal.invariant-loop-running
invariant-loop-running g l = record {
  count : vec_len l.outcomes + into_iter_len l.running-iterator ≡ vec_len l.fn.threads;
  left : into_iter_len l.running-iterator ≡ length (into_iter_items l.running-iterator);
  capacity : vec_capacity l.outcomes ≡ vec_capacity l.fn.outcomes;
  shots : map shot_of l.outcomes.items ++ map shot_in (into_iter_items l.running-iterator)
      ≡ map shot_in l.fn.threads.items;
  threads : All IsRunning (into_iter_items l.running-iterator);
  each : All (IsOutcome g.D.Disk.medium g.S.FrameSource.next_gives g.P.PlaneMemory.plane g.G.Visits.asks
      g.G.Visits.gives_up (g.G.Noting.NOTED ≡ false) g.G.Guide.due g.G.Guide.ends) l.outcomes.items;
}
