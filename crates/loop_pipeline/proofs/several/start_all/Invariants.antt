use Rattle.std.proofs.Common.{◌≡◌, ◌+◌, ◌++◌, ◌≤◌, All, map, vec_len}
use Rattle.std.specs.Vec.{vec_capacity}
use Rattle.loop_pipeline.specs.Several.{IsRunning, shot_in}
use Rattle.loop_pipeline.proofs.several.start_all.Given as goal

abbrev pub decreases-starting : goal.decreases-starting
decreases-starting g l = vec_len l.shots

abbrev pub invariant-starting : goal.invariant-starting
invariant-starting g l = record {
  left : vec_len l.shots + vec_len l.threads ≡ vec_len l.fn.shots;
  room : vec_len l.fn.shots ≤ vec_capacity l.threads;
  same : map shot_in l.threads.items ++ l.shots.items ≡ l.fn.shots.items;
  threads : All IsRunning l.threads.items;
}
