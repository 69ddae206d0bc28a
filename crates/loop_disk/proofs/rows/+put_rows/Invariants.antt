use Rattle.std.proofs.Common.{length}
use Rattle.loop_disk.proofs.rows.+put_rows.Given as goal

abbrev pub decreases-put_rows : goal.decreases-put_rows
decreases-put_rows g l = length l.rows.now
