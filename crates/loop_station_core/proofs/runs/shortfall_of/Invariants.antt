use Rattle.std.proofs.Common.{◌≡◌, ◌++◌, drop}
use Rattle.loop_station_core.specs.Gaps.{gaps}
use Rattle.loop_station_core.proofs.runs.shortfall_of.Given as goal

abbrev pub invariant-loop-run : goal.invariant-loop-run
invariant-loop-run l =
    l.gaps.items ++ gaps l.period l.at (drop l.run-index l.runs) l.until ≡ gaps l.period l.since l.runs l.until
