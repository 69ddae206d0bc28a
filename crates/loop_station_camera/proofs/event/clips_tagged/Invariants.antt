use Rattle.std.proofs.Common.{◌≡◌, take}
use Rattle.loop_station_camera.specs.Events.{having_tag}
use Rattle.loop_station_camera.proofs.event.clips_tagged.Given as goal

abbrev pub invariant-loop-clip : goal.invariant-loop-clip
invariant-loop-clip g l = l.clips.items ≡ having_tag l.tag (take l.clip-index l.clip-items)
