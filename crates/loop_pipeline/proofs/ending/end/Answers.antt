use Rattle.loop_pipeline.specs.Fronts.{made_of}
use Rattle.loop_pipeline.proofs.Leaving.{leaves}
use Rattle.loop_pipeline.proofs.RingEnds.{both}
use Rattle.loop_pipeline.proofs.ending.end.Goals as goal

pub returns-clause-keeps : goal.returns-clause-keeps
returns-clause-keeps g c first others was starts regular =
    both g.D.Disk.medium g.S.FrameSource.next_gives g.P.PlaneMemory.plane g.G.Visits.asks g.G.Visits.gives_up
    (g.G.Guide.due c.args.begun.guide.value) (g.G.Guide.ends c.args.begun.guide.value) (made_of c.args.begun) c.args.back
    first c.into_parts-desk.result.desk others c.into_parts-desk.result.joined.items _ _
    c.args.front.to c.slots_beside-left.new.producer c.into_parts-desk.result.from c.slots_beside-left.new.self
    _ _ _ _ _ c.into_parts-desk.result.refused was starts c.into_parts-desk.ensures.desks (c.requires.front.keeps regular)
    c.into_parts-desk.ensures.keeps c.slots_beside-left.ensures.producer c.slots_beside-left.ensures.looked
    c.slots_beside-left.ensures.fifo c.slots_beside-left.ensures.value

pub returns-clause-all : goal.returns-clause-all
returns-clause-all g c = c.into_parts-desk.ensures.keeps.all

pub returns-clause-left : goal.returns-clause-left
returns-clause-left g c =
    leaves g.D.Disk.medium g.G.Visits.asks g.G.Visits.gives_up c.args.back c.into_parts-desk.result.from _ _
    c.into_parts-desk.ensures.keeps
