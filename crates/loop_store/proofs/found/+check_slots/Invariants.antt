use Rattle.std.proofs.Common.{length}
use Rattle.loop_store.proofs.found.+check_slots.Given as goal

abbrev pub decreases-check_slots : goal.decreases-check_slots
decreases-check_slots g l = length l.«open».now
