use Rattle.std.proofs.Common.{◌≡◌, ◌^◌, ◌-◌, min, take}
use Rattle.loop_station_core.specs.Gaps.{frames_lost}
use Rattle.loop_station_core.proofs.runs.lost_in.Given as goal

abbrev pub invariant-loop-gap : goal.invariant-loop-gap
invariant-loop-gap l = l.lost ≡ min (frames_lost (take l.gap-index l.gaps)) (2 ^ 64 - 1)
