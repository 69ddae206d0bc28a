use Rattle.std.proofs.Common.{◌≡◌, ◌^◌, ◌-◌, min, take}
use Rattle.loop_station_core.specs.Gaps.{micros_missing}
use Rattle.loop_station_core.proofs.runs.missing_of.Given as goal

abbrev pub invariant-loop-gap : goal.invariant-loop-gap
invariant-loop-gap l = l.micros ≡ min (micros_missing (take l.gap-index l.gaps)) (2 ^ 64 - 1)
