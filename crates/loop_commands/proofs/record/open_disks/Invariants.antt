use Rattle.std.proofs.Common.{◌≡◌, ◌≤◌, length, vec_len}
use Rattle.std.specs.Vec.{vec_capacity}
use Rattle.loop_commands.proofs.record.open_disks.Given as goal

abbrev pub invariant-loop-path : goal.invariant-loop-path
invariant-loop-path g l = record {
  count : vec_len l.disks ≡ l.path-index;
  room : length l.paths ≤ vec_capacity l.disks;
}
