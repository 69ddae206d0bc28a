use Rattle.loop_store.proofs.CallRuns.{goes-joined}
use Rattle.loop_store.proofs.laws.calls_join.Goals as goal

pub returns : goal.returns
returns g c = λ first second before behind. goes-joined g.D.Disk.medium _ _ _ first second before behind
