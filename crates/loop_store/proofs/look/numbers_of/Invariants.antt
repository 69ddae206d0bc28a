use Rattle.std.proofs.Common.{◌≡◌, ◌≤◌, ◌*◌, length, take, vec_capacity}
use Rattle.loop_store.specs.Numbers.{numbers_in}
use Rattle.loop_store.proofs.look.numbers_of.Given as goal

-- the numbers so far, with room for all
abbrev pub invariant-loop-found : goal.invariant-loop-found
invariant-loop-found g l = record {
  items : l.numbers.items ≡ numbers_in l.geometry (take l.found-index l.segments);
  few : length l.numbers.items ≤ l.found-index * l.geometry.slots;
  room : length l.segments * l.geometry.slots ≤ vec_capacity l.numbers;
}
