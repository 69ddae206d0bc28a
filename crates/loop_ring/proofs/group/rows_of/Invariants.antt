use Rattle.std.proofs.Common.{◌≡◌, ◌*◌, length, take}
use Rattle.loop_disk.specs.Rows.{joined}
use Rattle.loop_ring.specs.Groups.{first_slots}
use Rattle.loop_ring.proofs.group.rows_of.Given as goal

-- the rows so far are those of as many slots
abbrev pub invariant-loop-place : goal.invariant-loop-place
invariant-loop-place l = record {
  size : length l.rows ≡ 128;
  slots : joined (take (2 * l.place) l.rows) ≡ first_slots l.place l.fn.heads l.fn.bodies;
}
