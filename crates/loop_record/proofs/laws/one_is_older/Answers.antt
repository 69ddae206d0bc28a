use Rattle.loop_record.proofs.CyclicOrder.{one-older}
use Rattle.loop_record.proofs.laws.one_is_older.Goals as goal

pub returns : goal.returns
returns c = one-older
