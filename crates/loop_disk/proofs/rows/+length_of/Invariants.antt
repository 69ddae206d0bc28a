use Rattle.std.proofs.Common.{length}
use Rattle.loop_disk.proofs.rows.+length_of.Given as goal

abbrev pub decreases-length_of : goal.decreases-length_of
decreases-length_of l = length l.rows.now
