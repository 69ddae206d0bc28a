use Rattle.std.proofs.Common.{◌≡◌, ◌++◌, List, length}
use Rattle.loop_pipeline.specs.Backs.{GoesAt}
use Rattle.loop_station_shared.specs.declared.found.FoundClip.{FoundClip}
use Rattle.loop_station_camera.specs.Keeping.{IsOnlyRead}
use Rattle.loop_station_camera.proofs.EventRuns.{EndsFirst}
use Rattle.loop_station_camera.proofs.event.add_clips.Given as goal

abbrev pub invariant-clips : goal.invariant-clips
invariant-clips g l = record {
  part : List FoundClip;
  has : l.found.items ≡ l.fn.found.items ++ part;
  ends : EndsFirst l.number l.clips l.clip-index l.next part;
  reads : GoesAt l.place l.fn.desks.desks l.desks.desks (IsOnlyRead g.D.Disk.medium);
  lent : l.desks.lent ≡ l.fn.desks.lent;
  still : length l.desks.desks ≡ length l.fn.desks.desks;
}
