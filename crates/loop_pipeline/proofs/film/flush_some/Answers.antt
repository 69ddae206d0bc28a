use Rattle.std.proofs.Common.{inr, arith}
use Rattle.loop_pipeline.proofs.Settling.{nothing-waits}
use Rattle.loop_pipeline.proofs.film.flush_some.Goals.{then-is_refused-via-then-is_refused, then-is_refused-via-else-is_refused+then-status-eq0}
use Rattle.loop_pipeline.proofs.film.flush_some.Goals as goal

-- a flush was refused, or nothing waits
pub returns-then-is_refused-clause-settled : goal.returns-then-is_refused-clause-settled
returns-then-is_refused-clause-settled g c plain none =
    elim c.then-is_refused.branch [
      | then-is_refused-via-then-is_refused w ↦ inr (c.is_refused.ensures w.if-is_refused.true)
      | then-is_refused-via-else-is_refused+then-status-eq0 w ↦
          nothing-waits g.D.Disk.medium g.G.Visits.gives_up c.args.back.now _ _ _ _ w.desks.ensures.desks
          w.desks-else-is_refused.ensures.active w.active.ensures.place w.status.ensures
          (grind (arith, w.if-status-eq0.true))
    ]
