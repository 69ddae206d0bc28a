use Rattle.std.proofs.Common.{sym}
use Rattle.loop_pipeline.proofs.Leaves.{unlocks, unlocks-none}
use Rattle.loop_pipeline.proofs.desks.Desks.unlock_clip.Goals as goal

pub returns-then-not-has_clip-clause-goes : goal.returns-then-not-has_clip-clause-goes
returns-then-not-has_clip-clause-goes g c =
    rw (sym c.id-id.ensures, sym c.clip.ensures)
    (unlocks-none g.D.Disk.medium _ _ _ _ c.has_clip.result c.has_clip.ensures c.if-not-has_clip.true)

pub returns-clause-goes : goal.returns-clause-goes
returns-clause-goes g c =
    rw (sym c.id-id.ensures, sym c.clip.ensures)
    (unlocks g.D.Disk.medium _ _ _ _ _ _ c.has_clip.result c.has_clip.ensures c.if-not-has_clip.false c.unlock.ensures.goes)
