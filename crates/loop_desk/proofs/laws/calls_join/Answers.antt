use Rattle.loop_desk.proofs.CallRuns.{desk-joined}
use Rattle.loop_desk.proofs.laws.calls_join.Goals as goal

pub returns : goal.returns
returns g c = λ first second before behind. desk-joined g.D.Disk.medium _ _ _ first second before behind
