use Rattle.std.proofs.Common.{◌≡◌, ◌+◌, ◌≤◌, All, vec_len}
use Rattle.std.specs.Vec.{vec_capacity}
use Rattle.std.specs.Vec.Iter.{into_iter_items, into_iter_len}
use Rattle.loop_recorder.specs.Opened.{IsReady, TellOutlines, desks_in}
use Rattle.loop_recorder.proofs.opened.with_outlines.Given as goal

abbrev pub invariant-loop-camera : goal.invariant-loop-camera
invariant-loop-camera g l = record {
  room : vec_len l.opened + into_iter_len l.camera-iterator ≤ vec_capacity l.opened;
  count : vec_len l.opened + into_iter_len l.camera-iterator ≡ vec_len l.fn.cameras;
  ready : All (IsReady g.P.PlaneMemory.plane) (into_iter_items l.camera-iterator);
  left : into_iter_len l.outlines ≡ into_iter_len l.camera-iterator;
  each : TellOutlines g.D.Disk.medium (desks_in (into_iter_items l.camera-iterator)) (into_iter_items l.outlines);
}
