use Rattle.std.proofs.Common.{◌≡◌, ◌+◌, ◌++◌, ◌≤◌, List, length, vec_len}
use Rattle.std.specs.Vec.{vec_capacity}
use Rattle.std.specs.Vec.Iter.{into_iter_items, into_iter_len}
use Rattle.loop_commands.specs.Recorded.{AreOpened}
use Rattle.loop_commands.proofs.record.find_stores.Given as goal

abbrev pub invariant-loop-disk : goal.invariant-loop-disk
invariant-loop-disk g l = record {
  count : vec_len l.stores + into_iter_len l.disk-iterator ≡ vec_len l.fn.disks;
  room : vec_len l.fn.disks ≤ vec_capacity l.stores;
  left : into_iter_len l.disk-iterator ≡ length (into_iter_items l.disk-iterator);
  opened : (done : List g.row.D.Denot) × (done ++ into_iter_items l.disk-iterator ≡ l.fn.disks.items)
      × AreOpened g.D.Disk.medium l.keep done l.stores.items;
}
