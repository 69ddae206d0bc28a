use Rattle.std.proofs.Common.{◌≡◌}
use Rattle.loop_station_camera.specs.Keeping.{known}
use Rattle.loop_vb2.proofs.Sweeps.{swept}
use Rattle.loop_station_camera.proofs.keeping.name_clips.Given as goal

abbrev pub invariant-loop-clip : goal.invariant-loop-clip
invariant-loop-clip l = l.clips ≡ swept (known l.number) l.clip-index l.initial.clips
