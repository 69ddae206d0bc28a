use Rattle.loop_station_camera.proofs.ReadRuns.{none-read, one-read}
use Rattle.loop_station_camera.proofs.reading.times_in.Goals as goal

pub returns-in-Some-clause-reads : goal.returns-in-Some-clause-reads
returns-in-Some-clause-reads g c =
    one-read g.D.Disk.medium c.args.desks.now.desks c.found_of.new.desks.desks c.in-Some.place c.found_of.ensures.reads

pub returns-in-None-clause-reads : goal.returns-in-None-clause-reads
returns-in-None-clause-reads g c = none-read g.D.Disk.medium c.args.desks.now.desks
