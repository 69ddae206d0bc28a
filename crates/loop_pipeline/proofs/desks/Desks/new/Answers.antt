use Rattle.std.proofs.Common.{◌∷◌, [], arith}
use Rattle.loop_pipeline.proofs.Visiting.{none-visited}
use Rattle.loop_pipeline.proofs.desks.Desks.new.Goals as goal

pub invariant_of-result : goal.invariant_of-result
invariant_of-result g c =
    rw (c.of.ensures, c.push_reserved.ensures.items, c.in-Ok.ensures.items)
    (none-visited g.D.Disk.medium g.K.Visits.asks (c.args.desk ∷ []) 0 (omega arith))
