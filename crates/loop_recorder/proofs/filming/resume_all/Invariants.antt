use Rattle.std.proofs.Common.{◌≡◌, ◌+◌, ◌++◌, length, map, take}
use Rattle.std.specs.Vec.Iter.{into_iter_items, into_iter_len}
use Rattle.loop_recorder.specs.Recordings.{without_source}
use Rattle.loop_recorder.proofs.filming.resume_all.Given as goal

abbrev pub invariant-loop-at : goal.invariant-loop-at
invariant-loop-at g l = record {
  same : length l.devices ≡ length l.fn.devices;
  count : l.at + into_iter_len l.rests ≡ length l.fn.devices;
  resumed : map without_source (take l.at l.devices) ++ into_iter_items l.rests ≡ l.fn.rests.items;
}
