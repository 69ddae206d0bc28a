use Rattle.std.proofs.Common.{refl, ◌∙◌}
use Rattle.loop_station_camera.proofs.ReadRuns.{each-then, none-read}
use Rattle.loop_station_camera.proofs.reading.runs_of.Goals as goal

pub clips-init : goal.clips-init
clips-init g c = record {
  reads = none-read g.D.Disk.medium c.args.desks.now.desks;
  lent = refl;
}

pub clips-preserved : goal.clips-preserved
clips-preserved g c = record {
  reads = each-then g.D.Disk.medium c.args.desks.now.desks c.clips.desks.desks c.add_held-fault.new.desks.desks
      c.clips.invariant.reads c.add_held-fault.ensures.reads;
  lent = c.add_held-fault.ensures.lent ∙ c.clips.invariant.lent;
}
