use Rattle.std.specs.Io.KnownBytes.{Keeps}
use Rattle.loop_y4m.proofs.input.read_some.Given as goal

-- nothing was taken yet
abbrev pub invariant-loop : goal.invariant-loop
invariant-loop g l = Keeps (g.R.Read.remaining l.fn.reader) (g.R.Read.remaining l.reader)
