use Rattle.std.proofs.Common.{◌≡◌, ◌+◌, ◌≤◌, All, vec_len}
use Rattle.std.specs.Vec.{vec_capacity}
use Rattle.std.specs.Vec.Iter.{into_iter_len}
use Rattle.loop_recorder.specs.Endings.{IsFaithfulCamera}
use Rattle.loop_recorder.proofs.opened.open_all.Given as goal

abbrev pub invariant-loop-session : goal.invariant-loop-session
invariant-loop-session g l = record {
  room : vec_len l.ended + into_iter_len l.session-iterator ≤ vec_capacity l.ended;
  count : vec_len l.ended + into_iter_len l.session-iterator ≡ vec_len l.fn.sessions;
  faithful : All (IsFaithfulCamera g.D.Disk.medium) l.ended.items;
}
