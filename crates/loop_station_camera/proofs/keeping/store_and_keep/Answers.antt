use Rattle.std.proofs.Common.{◌∙◌, arith, refl}
use Rattle.loop_station_camera.specs.Keeping.{KeepsHere}
use Rattle.loop_station_camera.proofs.KeepRuns.{each-kept, kept-here, none-kept, one-kept}
use Rattle.loop_station_camera.proofs.keeping.store_and_keep.Goals as goal

pub places-init : goal.places-init
places-init g c = record {
  kept = none-kept (KeepsHere g.D.Disk.medium c.args.times c.args.tag) c.store_all-refused.new.desks.desks
      c.nothing_kept-all.result c.nothing_kept-all.ensures.clips c.nothing_kept-all.ensures.fault;
  lent = refl;
}

pub places-preserved : goal.places-preserved
places-preserved g c = record {
  kept = one-kept (KeepsHere g.D.Disk.medium c.args.times c.args.tag) c.places.place
      c.store_all-refused.new.desks.desks c.places.desks.desks c.keep_at-kept.new.desks.desks c.places.all
      c.places.invariant.kept c.take_kept.new.all c.keep_at-kept.result c.take_kept.ensures
      (kept-here g.D.Disk.medium c.args.times c.args.tag c.places.place c.places.desks.desks
      c.keep_at-kept.new.desks.desks c.places.all c.take_kept.new.all c.keep_at-kept.result c.take_kept.ensures
      c.keep_at-kept.ensures.locks);
  lent = c.keep_at-kept.ensures.lent ∙ c.places.invariant.lent;
}

pub returns : goal.returns
returns g c = record {
  keeps = each-kept (KeepsHere g.D.Disk.medium c.args.times c.args.tag) g.D.Disk.medium c.args.desks.now.lent.active
      c.args.desks.now.desks c.store_all-refused.new.desks.desks c.places.desks.desks c.places.all
      c.store_all-refused.result c.places.place c.store_all-refused.ensures.goes (omega arith) c.places.invariant.kept;
  lent = c.places.invariant.lent ∙ c.store_all-refused.ensures.lent;
}
