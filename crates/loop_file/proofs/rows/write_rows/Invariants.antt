use Rattle.std.proofs.Common.{◌≡◌, ◌+◌, ◌≤◌, length, drop}
use Rattle.loop_disk.specs.Rows.{joined}
use Rattle.loop_file.proofs.rows.write_rows.Given as goal

-- what is held ends where the next row begins
abbrev pub invariant-loop-row : goal.invariant-loop-row
invariant-loop-row g l = record {
  few : l.held ≤ 8192;
  place : l.at + l.held + length (joined (drop l.row-index l.fn.rows)) ≡ l.fn.at + length (joined l.fn.rows);
}
