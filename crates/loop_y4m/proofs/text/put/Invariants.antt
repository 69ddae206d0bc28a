use Rattle.loop_y4m.proofs.PartWrites.{IsGiven}
use Rattle.loop_y4m.proofs.text.put.Given as goal

-- what isn't left to write was written
abbrev pub invariant-loop : goal.invariant-loop
invariant-loop g l = IsGiven (g.W.Write.contents l.fn.out) (g.W.Write.contents l.out) l.bytes l.rest
