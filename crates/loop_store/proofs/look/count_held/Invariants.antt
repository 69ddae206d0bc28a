use Rattle.std.proofs.Common.{◌≡◌, ◌≤◌, ◌*◌, length, take}
use Rattle.loop_store.specs.Numbers.{numbers_under}
use Rattle.loop_store.proofs.look.count_held.Given as goal

-- those of the headers so far
abbrev pub invariant-loop-head : goal.invariant-loop-head
invariant-loop-head g l = record {
  count : l.count ≡ length (numbers_under l.fn.index.ring.geometry.slots (take l.head-index l.fn.index.table.heads));
  few : l.count ≤ l.head-index * 4294967296;
}
