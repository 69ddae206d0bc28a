use Rattle.std.proofs.Common.{ap, ◌∙◌}
use Rattle.std.specs.Option.{option_or}
use Rattle.loop_station_camera.proofs.ReadRuns.{each-then}
use Rattle.loop_station_camera.proofs.clerk.lock_part.Goals as goal

pub returns-clause-locks : goal.returns-clause-locks
returns-clause-locks g c = record {
  between = c.store_and_keep-kept.new.desks.desks;
  refused = c.store_and_keep-kept.result.1;
  locks = c.store_and_keep-kept.ensures.keeps;
  told = λ fault is. c.or-refused.ensures ∙ ap (λ o. option_or o c.locked_fault.result) is;
  reads = each-then g.D.Disk.medium c.store_and_keep-kept.new.desks.desks c.times_of-found.new.desks.desks
      c.runs_of-runs.new.desks.desks c.times_of-found.ensures.reads c.runs_of-runs.ensures.reads;
}
