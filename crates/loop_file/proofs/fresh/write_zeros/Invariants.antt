use Rattle.std.proofs.Common.{◌-◌}
use Rattle.loop_file.proofs.fresh.write_zeros.Given as goal

abbrev pub decreases-loop-at : goal.decreases-loop-at
decreases-loop-at g l = l.to - l.at
