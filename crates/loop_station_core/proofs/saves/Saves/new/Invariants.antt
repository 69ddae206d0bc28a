use Rattle.std.proofs.Common.{◌≡◌, None, replicate}
use Rattle.loop_station_core.proofs.saves.Saves.new.Given as goal

abbrev pub invariant-loop : goal.invariant-loop
invariant-loop l = l.running.items ≡ replicate l.counter None
