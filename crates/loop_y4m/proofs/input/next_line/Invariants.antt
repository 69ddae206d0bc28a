use Rattle.std.proofs.Common.{◌-◌, ◌≡◌, ◌≤◌, length, take, IfSome, ◌++◌}
use Rattle.loop_y4m.proofs.Lines.{IsBegun}
use Rattle.loop_y4m.proofs.input.next_line.Given as goal

-- the bytes so far have begun the line
abbrev pub invariant-loop-n : goal.invariant-loop-n
invariant-loop-n g l = record {
  size : length l.buf ≡ 4096;
  room : l.n ≤ 4096;
  begun : IfSome (g.R.Read.remaining l.fn.reader) (λ bytes. IsBegun (take l.from l.fn.buf ++ bytes) (take l.n l.buf)
      (g.R.Read.remaining l.reader));
}

abbrev pub decreases-loop-n : goal.decreases-loop-n
decreases-loop-n g l = 4096 - l.n
