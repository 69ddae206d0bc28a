use Rattle.std.proofs.Common.{◌-◌, ◌≡◌, ◌≤◌, length, take, IfSome, ◌++◌}
use Rattle.std.specs.Prelude.{Some, List, ℕ}
use Rattle.loop_y4m.proofs.frame.fill.Given as goal

-- the bytes so far were taken
abbrev pub invariant-loop-at : goal.invariant-loop-at
invariant-loop-at g l = record {
  room : l.at ≤ length l.out;
  taken : IfSome (g.R.Read.remaining l.fn.reader) (λ bytes. (rest : List ℕ) × (bytes ≡ take l.at l.out ++ rest)
      × (g.R.Read.remaining l.reader ≡ Some rest));
}

abbrev pub decreases-loop-at : goal.decreases-loop-at
decreases-loop-at g l = length l.out - l.at
