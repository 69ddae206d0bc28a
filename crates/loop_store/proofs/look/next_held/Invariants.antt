use Rattle.std.proofs.Common.{take}
use Rattle.std.specs.List.{list_any}
use Rattle.loop_ring.specs.Heads.{has_number}
use Rattle.loop_store.specs.Numbers.{IsLeastFrom}
use Rattle.loop_store.proofs.look.next_held.Given as goal

-- it is the least of the segments so far
abbrev pub invariant-loop-head : goal.invariant-loop-head
invariant-loop-head g l = IsLeastFrom (λ n. list_any (has_number l.fn.index.ring.geometry.slots n)
    (take l.head-index l.fn.index.table.heads)) l.fn.number l.least
