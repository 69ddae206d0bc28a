use Rattle.loop_pipeline.proofs.OneDesk.{one-desk}
use Rattle.loop_pipeline.proofs.laws.one_desk_has_all.Goals as goal

pub returns : goal.returns
returns g c = λ given_up left missed failed over kept none.
    one-desk g.D.Disk.medium g.S.FrameSource.next_gives g.P.PlaneMemory.plane g.G.Visits.asks g.G.Visits.gives_up
    (g.G.Guide.due c.args.guide.now) (g.G.Guide.ends c.args.guide.now) _ _ given_up left missed failed over kept none
