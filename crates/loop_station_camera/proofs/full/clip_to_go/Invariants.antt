use Rattle.std.proofs.Common.{◌≡◌}
use Rattle.loop_station_camera.proofs.full.clip_to_go.Given as goal

abbrev pub invariant-clips : goal.invariant-clips
invariant-clips g l = l.desks.lent ≡ l.fn.desks.lent
