use Rattle.loop_pipeline.proofs.Alone.{filmed-alone, given-alone}
use Rattle.loop_pipeline.proofs.DeskPlaces.{ok-then}
use Rattle.loop_pipeline.proofs.Settling.{one-settled}
use Rattle.loop_pipeline.proofs.film.film_camera.Goals as goal

pub returns-clause-keeps : goal.returns-clause-keeps
returns-clause-keeps g c =
    filmed-alone g.D.Disk.medium g.S.FrameSource.next_gives g.P.PlaneMemory.plane g.G.Visits.asks g.G.Visits.gives_up
    (g.G.Guide.due c.args.guide.now) (g.G.Guide.ends c.args.guide.now) _ c.shut-door.ensures c.args.camera c.film_desks-filmed.result
    c.film_desks-filmed.ensures.keeps

pub returns-clause-refused : goal.returns-clause-refused
returns-clause-refused g c =
    given-alone g.D.Disk.medium g.S.FrameSource.next_gives g.P.PlaneMemory.plane g.G.Visits.asks g.G.Visits.gives_up
    (g.G.Guide.due c.args.guide.now) (g.G.Guide.ends c.args.guide.now) _ c.shut-door.ensures c.args.camera c.film_desks-filmed.result
    c.film_desks-filmed.ensures.refused

pub returns-clause-settled : goal.returns-clause-settled
returns-clause-settled g c plain =
    ok-then c.film_desks-filmed.result _ _ (c.film_desks-filmed.ensures.settled plain) (λ e is.
    one-settled g.D.Disk.medium g.G.Visits.gives_up _ c.shut-door.ensures c.args.camera.desk e.desk e.joined.items is)
