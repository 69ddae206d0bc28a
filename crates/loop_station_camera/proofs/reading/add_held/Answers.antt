use Rattle.loop_station_camera.proofs.ReadRuns.{none-read, one-read}
use Rattle.loop_station_camera.proofs.reading.add_held.Goals as goal

pub returns-in-Some-clause-reads : goal.returns-in-Some-clause-reads
returns-in-Some-clause-reads g c =
    one-read g.D.Disk.medium c.args.desks.now.desks c.add_stretches.new.desks.desks c.in-Some.place
    c.add_stretches.ensures.reads

pub returns-in-None-clause-reads : goal.returns-in-None-clause-reads
returns-in-None-clause-reads g c = none-read g.D.Disk.medium c.args.desks.now.desks
