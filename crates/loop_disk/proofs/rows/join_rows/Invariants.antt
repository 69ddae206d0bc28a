use Rattle.std.proofs.Common.{◌≡◌, take}
use Rattle.loop_disk.specs.Rows.{joined}
use Rattle.loop_disk.proofs.rows.join_rows.Given as goal

-- the rows so far
abbrev pub invariant-loop-row : goal.invariant-loop-row
invariant-loop-row g l = l.bytes.items ≡ joined (take l.row-index l.fn.rows)
