use Rattle.loop_pipeline.proofs.OldestGoes.{oldest-goes}
use Rattle.loop_pipeline.proofs.laws.the_oldest_goes.Goals as goal

pub returns : goal.returns
returns c = oldest-goes
