use Rattle.loop_record.proofs.CyclicOrder.{newest-last}
use Rattle.loop_record.proofs.laws.the_newest_is_last.Goals as goal

pub returns : goal.returns
returns c = newest-last
