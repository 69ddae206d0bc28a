use Rattle.loop_recorder.proofs.Kept.{each-kept}
use Rattle.loop_recorder.proofs.filming.film_open.Goals as goal

pub returns-clause-keeps : goal.returns-clause-keeps
returns-clause-keeps g c =
    each-kept (λ loan. loan.source.now) g.S.FrameSource.next_gives g.D.Disk.medium g.P.PlaneMemory.plane c.args.frames
    _ _ c.args.noted.cameras.items c.shots_of-shots.result.items c.film-rests.result
    c.shots_of-shots.ensures.devices c.shots_of-shots.ensures.held c.shots_of-shots.ensures.guided
    c.resume_all.ensures c.film-rests.ensures.filmed
