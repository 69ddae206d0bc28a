use Rattle.std.proofs.Common.{◌≡◌, ◌+◌, ◌≤◌, vec_len}
use Rattle.std.specs.Vec.{vec_capacity}
use Rattle.std.specs.Vec.Iter.{into_iter_len}
use Rattle.loop_recorder.proofs.running.apart.Given as goal

abbrev pub invariant-loop-one : goal.invariant-loop-one
invariant-loop-one g l = record {
  cameras : vec_len l.cameras + into_iter_len l.one-iterator ≡ vec_len l.fn.filmed;
  copies : vec_len l.copies + into_iter_len l.one-iterator ≡ vec_len l.fn.filmed;
  given_up : vec_len l.given_up + into_iter_len l.one-iterator ≡ vec_len l.fn.filmed;
  room_cameras : vec_len l.fn.filmed ≤ vec_capacity l.cameras;
  room_copies : vec_len l.fn.filmed ≤ vec_capacity l.copies;
  room_given_up : vec_len l.fn.filmed ≤ vec_capacity l.given_up;
}
