use Rattle.loop_record.proofs.Fresh.{written}
use Rattle.loop_record.proofs.laws.written_is_read.Goals as goal

pub returns : goal.returns
returns c = written
