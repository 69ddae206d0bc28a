use Rattle.std.proofs.Common.{Some, ap, sym, ◌∙◌}
use Rattle.loop_pipeline.proofs.Places.{read-at}
use Rattle.loop_pipeline.proofs.Turning.{begins-not, begins-with}
use Rattle.loop_pipeline.proofs.desks.Desks.is_locked.Goals as goal

pub returns-then-not-is_between : goal.returns-then-not-is_between
returns-then-not-is_between g c e = begins-not g.D.Disk.medium c.args.self.now c.is_between.result c.is_between.ensures c.if-not-is_between.true

pub returns : goal.returns
returns g c e =
    begins-with g.D.Disk.medium _ _ c.desk.result.now c.space.result c.is_full.result c.self.view_is
    (read-at _ _ _ c.self.invariant.inside c.index.ensures ∙ ap Some (sym c.desk.ensures)) c.space.ensures c.is_full.ensures e
