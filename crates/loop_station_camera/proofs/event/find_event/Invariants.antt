use Rattle.std.proofs.Common.{◌≡◌}
use Rattle.loop_station_camera.specs.Keeping.{AreOnlyRead}
use Rattle.loop_station_camera.proofs.EventRuns.{FindsFirst}
use Rattle.loop_station_camera.proofs.event.find_event.Given as goal

abbrev pub invariant-places : goal.invariant-places
invariant-places g l = record {
  finds : FindsFirst l.tag l.place l.fn.desks.desks l.desks.desks l.found.items;
  reads : AreOnlyRead g.D.Disk.medium l.fn.desks.desks l.desks.desks;
  lent : l.desks.lent ≡ l.fn.desks.lent;
}
