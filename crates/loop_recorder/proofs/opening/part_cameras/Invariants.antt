use Rattle.std.proofs.Common.{◌≡◌, ◌+◌, ◌++◌, ◌≤◌, All, length, map, vec_len}
use Rattle.std.specs.Vec.{vec_capacity}
use Rattle.std.specs.Vec.Iter.{into_iter_items, into_iter_len}
use Rattle.loop_recorder.specs.Endings.{IsFaithfulCamera}
use Rattle.loop_recorder.specs.Opened.{AreNumbered}
use Rattle.loop_recorder.proofs.opening.part_cameras.Given as goal

abbrev pub invariant-loop-camera : goal.invariant-loop-camera
invariant-loop-camera g l = record {
  room : vec_len l.ended + into_iter_len l.camera-iterator ≤ vec_capacity l.ended;
  space : vec_len l.ports + into_iter_len l.camera-iterator ≤ vec_capacity l.ports;
  ended : vec_len l.ended + into_iter_len l.camera-iterator ≡ vec_len l.fn.cameras;
  ports : vec_len l.ports + into_iter_len l.camera-iterator ≡ vec_len l.fn.cameras;
  left : into_iter_len l.camera-iterator ≡ length (into_iter_items l.camera-iterator);
  faithful : All (IsFaithfulCamera g.D.Disk.medium) l.ended.items;
  desks : map (λ c. c.desk) l.ended.items ++ map (λ c. c.session.desk) (into_iter_items l.camera-iterator)
      ≡ map (λ c. c.session.desk) l.fn.cameras.items;
  number : l.number ≡ vec_len l.ports;
  numbers : AreNumbered l.number l.ports.items;
}
