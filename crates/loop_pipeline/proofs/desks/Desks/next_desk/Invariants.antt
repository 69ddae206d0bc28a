use Rattle.loop_pipeline.specs.Turns.{Searches}
use Rattle.loop_pipeline.proofs.desks.Desks.next_desk.Given as goal

abbrev pub invariant-desks : goal.invariant-desks
invariant-desks g l = Searches g.D.Disk.medium l.fn.self.desks l.fn.self.lent.end l.fn.self.lent.active l.place l.search
