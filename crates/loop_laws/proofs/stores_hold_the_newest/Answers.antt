use Rattle.loop_laws.proofs.Runs.{stores-hold_newest}
use Rattle.loop_laws.proofs.stores_hold_the_newest.Goals as goal

pub returns : goal.returns
returns c = stores-hold_newest
