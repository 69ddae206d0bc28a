use Rattle.std.proofs.Common.{◌≡◌, ◌+◌, ◌++◌, ◌≤◌, All, length, map, take, vec_len}
use Rattle.std.specs.Vec.{vec_capacity}
use Rattle.std.specs.Vec.Iter.{into_iter_items, into_iter_len}
use Rattle.loop_recorder.specs.Recordings.{IsGuided, had_by, had_in, lender_of}
use Rattle.loop_recorder.proofs.filming.shots_of.Given as goal

abbrev pub invariant-loop-device : goal.invariant-loop-device
invariant-loop-device g l = record {
  number : l.number ≡ l.device-index;
  cameras : l.number + into_iter_len l.cameras ≡ length l.fn.devices;
  passes : l.number + into_iter_len l.passes ≡ length l.fn.devices;
  shots : vec_len l.shots ≡ l.number;
  room : length l.fn.devices ≤ vec_capacity l.shots;
  left : into_iter_len l.cameras ≡ length (into_iter_items l.cameras);
  devices : map (lender_of (λ loan. loan.source.now)) l.shots.items ≡ take l.number l.fn.devices;
  held : map had_by l.shots.items ++ map had_in (into_iter_items l.cameras) ≡ map had_in l.fn.cameras.items;
  guided : All (IsGuided l.frames) l.shots.items;
}
