use Rattle.std.proofs.Common.{◌≤◌, ◌-◌, max}
use Rattle.loop_ring.proofs.Oldest.{IsLeft}
use Rattle.loop_ring.proofs.victim.floor_block.Given as goal

-- as many of the entries after the rest have a frame as were passed
abbrev pub invariant-loop-entry : goal.invariant-loop-entry
invariant-loop-entry l =
    IsLeft l.fn.heads l.fn.entries l.entry-iterator.iter.rest.now (max 1 l.fn.keep - l.left)
    × ((1 ≤ l.left) × (l.left ≤ max 1 l.fn.keep))
