use Rattle.std.proofs.Common.{◌≡◌, ◌≤◌, length, vec_len}
use Rattle.std.specs.Vec.{vec_capacity}
use Rattle.loop_desk.proofs.KeepParts.{LocksFirst}
use Rattle.loop_desk.proofs.keep.lock_runs.Given as goal

abbrev pub invariant-loop-run : goal.invariant-loop-run
invariant-loop-run g l = record {
  first : LocksFirst g.D.Disk.medium l.tag l.run-index l.runs l.clips.items l.fn.desk l.desk;
  count : vec_len l.clips ≡ l.run-index;
  room : length l.runs ≤ vec_capacity l.clips;
}
