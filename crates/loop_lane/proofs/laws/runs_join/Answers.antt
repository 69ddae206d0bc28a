use Rattle.loop_lane.proofs.Order.{keeps}
use Rattle.loop_lane.proofs.LaneRuns.{ran-joined}
use Rattle.loop_lane.proofs.laws.runs_join.Goals as goal

pub returns : goal.returns
returns g c = λ es fs ps qs before behind. keeps g.P.PlaneMemory.plane g.D.Disk.medium _ _ _ _
    (ran-joined g.P.PlaneMemory.plane g.D.Disk.medium _ _ _ es fs ps qs before behind)
