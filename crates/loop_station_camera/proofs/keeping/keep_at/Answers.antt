use Rattle.loop_pipeline.proofs.DeskPlaces.{as-many}
use Rattle.loop_station_camera.proofs.KeepRuns.{locks-whole}
use Rattle.loop_station_camera.proofs.keeping.keep_at.Goals as goal

pub returns-clause-still : goal.returns-clause-still
returns-clause-still g c = as-many c.args.desks.now.desks c.keep.new.self.desks c.args.place _ c.keep.ensures.goes

pub returns-clause-locks : goal.returns-clause-locks
returns-clause-locks g c =
    locks-whole g.D.Disk.medium c.args.times c.args.tag c.args.place c.args.desks.now.desks c.keep.new.self.desks
    c.keep.result c.keep.ensures.goes c.keep.ensures.whole
