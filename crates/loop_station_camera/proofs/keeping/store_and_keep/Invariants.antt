use Rattle.std.proofs.Common.{◌≡◌}
use Rattle.loop_station_camera.specs.Keeping.{KeepsHere}
use Rattle.loop_station_camera.proofs.KeepRuns.{KeepsFirst}
use Rattle.loop_station_camera.proofs.keeping.store_and_keep.Given as goal

abbrev pub invariant-places : goal.invariant-places
invariant-places g l = record {
  kept : KeepsFirst (KeepsHere g.D.Disk.medium l.times l.tag) l.place l.initial.desks.desks l.desks.desks l.all;
  lent : l.desks.lent ≡ l.initial.desks.lent;
}
