use Rattle.std.proofs.Common.{◌≡◌, ◌+◌, ◌≤◌, vec_len}
use Rattle.std.specs.Vec.{vec_capacity}
use Rattle.std.specs.Vec.Iter.{into_iter_len}
use Rattle.loop_recorder.specs.Opened.{AreNumbered}
use Rattle.loop_recorder.proofs.opened.lock_cameras.Given as goal

abbrev pub invariant-loop-camera : goal.invariant-loop-camera
invariant-loop-camera g l = record {
  room : vec_len l.sessions + into_iter_len l.camera-iterator ≤ vec_capacity l.sessions;
  space : vec_len l.ports + into_iter_len l.camera-iterator ≤ vec_capacity l.ports;
  sessions : vec_len l.sessions + into_iter_len l.camera-iterator ≡ vec_len l.fn.cameras;
  ports : vec_len l.ports + into_iter_len l.camera-iterator ≡ vec_len l.fn.cameras;
  number : l.number ≡ vec_len l.ports;
  numbers : AreNumbered l.number l.ports.items;
}
