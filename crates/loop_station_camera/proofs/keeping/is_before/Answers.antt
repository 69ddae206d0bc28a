use Rattle.loop_pipeline.proofs.DeskPlaces.{goes-still}
use Rattle.loop_station_camera.specs.Keeping.{IsOnlyRead}
use Rattle.loop_station_camera.proofs.ReadRuns.{not-read}
use Rattle.loop_station_camera.proofs.keeping.is_before.Goals as goal

pub returns-in_default-clause-reads : goal.returns-in_default-clause-reads
returns-in_default-clause-reads g c =
    goes-still c.args.desks.now.desks c.args.place (IsOnlyRead g.D.Disk.medium) c.requires (not-read g.D.Disk.medium)
