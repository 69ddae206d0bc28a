use Rattle.loop_laws.proofs.Runs.{stores-go_on}
use Rattle.loop_laws.proofs.stores_go_on.Goals as goal

pub returns : goal.returns
returns c = stores-go_on
