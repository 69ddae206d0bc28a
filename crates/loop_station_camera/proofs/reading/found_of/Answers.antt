use Rattle.loop_station_camera.proofs.ReadRuns.{here-then}
use Rattle.loop_station_camera.proofs.reading.found_of.Goals as goal

pub returns-in_err-last-clause-reads : goal.returns-in_err-last-clause-reads
returns-in_err-last-clause-reads g c =
    here-then g.D.Disk.medium c.args.desks.now.desks c.head_at.new.desks.desks c.head_at-2.new.desks.desks c.args.place
    c.in_ok-first.ensures.reads c.in_err-last.ensures.reads

pub returns-clause-reads : goal.returns-clause-reads
returns-clause-reads g c =
    here-then g.D.Disk.medium c.args.desks.now.desks c.head_at.new.desks.desks c.head_at-2.new.desks.desks c.args.place
    c.in_ok-first.ensures.reads c.in_ok-last.ensures.reads
