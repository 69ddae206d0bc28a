use Rattle.std.proofs.Common.{◌≡◌}
use Rattle.loop_station_camera.proofs.clerk.lend.Given as goal

abbrev pub invariant-frames : goal.invariant-frames
invariant-frames g l = l.desks.lent ≡ l.fn.desks.lent
