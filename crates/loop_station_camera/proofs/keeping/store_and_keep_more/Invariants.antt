use Rattle.std.proofs.Common.{◌≡◌, length}
use Rattle.loop_station_camera.specs.Keeping.{KeepsMoreHere}
use Rattle.loop_station_camera.proofs.KeepRuns.{KeepsFirst}
use Rattle.loop_station_camera.proofs.keeping.store_and_keep_more.Given as goal

abbrev pub invariant-places : goal.invariant-places
invariant-places g l = record {
  kept : KeepsFirst (KeepsMoreHere g.D.Disk.medium l.times l.fn.growing.keep.tag) l.place l.initial.desks.desks
      l.desks.desks l.all;
  keep : l.growing.keep ≡ l.fn.growing.keep;
  lent : l.desks.lent ≡ l.fn.desks.lent;
  still : length l.desks.desks ≡ length l.initial.desks.desks;
}
