use Rattle.std.proofs.Common.{length}
use Rattle.loop_disk.proofs.once.+tear_rows.Given as goal

abbrev pub decreases-tear_rows : goal.decreases-tear_rows
decreases-tear_rows g l = length l.rows.now
