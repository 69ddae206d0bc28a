use Rattle.std.proofs.Common.{◌≡◌, None, replicate}
use Rattle.loop_station_core.proofs.replies.Replies.new.Given as goal

abbrev pub invariant-loop : goal.invariant-loop
invariant-loop g l = l.given.items ≡ replicate l.counter None
