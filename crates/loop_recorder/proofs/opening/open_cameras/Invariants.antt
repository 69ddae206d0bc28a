use Rattle.std.proofs.Common.{◌≡◌, ◌+◌, vec_len}
use Rattle.std.specs.Vec.{vec_capacity}
use Rattle.loop_recorder.proofs.opening.open_cameras.Given as goal

abbrev pub invariant-loop-camera : goal.invariant-loop-camera
invariant-loop-camera g l = record {
  all : l.count ≡ vec_len l.fn.sessions;
  left : vec_len l.sessions + l._camera ≡ l.count;
  beside : vec_len l.ports ≡ vec_len l.sessions;
  taken : vec_len l.cameras ≡ l._camera;
  sessions : vec_capacity l.sessions ≡ vec_capacity l.fn.sessions;
  ports : vec_capacity l.ports ≡ vec_capacity l.fn.ports;
  room : vec_capacity l.cameras ≡ vec_capacity l.fn.cameras;
}
