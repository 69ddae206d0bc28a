use Rattle.std.proofs.Common.{◌∷◌, [], List, Ok, Err, Result, ℕ, subst}
use Rattle.loop_desk.specs.Desk.{frame_read}
use Rattle.loop_desk.specs.Seen.{DeskGoes, SeenDesk}
use Rattle.loop_pipeline.specs.Backs.{GoesAt}
use Rattle.loop_record.specs.declared.frame.FrameHead.{FrameHead}
use Rattle.loop_store.specs.declared.fault.StoreFault.{StoreFault}
use Rattle.loop_station_camera.specs.Answers.{SeenPlace}
use Rattle.loop_station_camera.proofs.answered.Answered.of.Goals as goal

pub returns-in-Ok-clause-goes : goal.returns-in-Ok-clause-goes
returns-in-Ok-clause-goes g c =
    let read : Result (FrameHead × List ℕ) StoreFault = Ok (c.in-Ok.frame.head, c.in-Ok.frame.bytes.items) in
    subst (λ (at : SeenPlace). GoesAt at.place c.args.desks.now.desks c.read_frame.new.self.desks
    (λ (d e : SeenDesk g.row.D.Denot). DeskGoes g.D.Disk.medium d e (frame_read c.args.number read ∷ []))) c.at.view_is
    c.in-Ok.ensures.goes

pub returns-in-Err-clause-goes : goal.returns-in-Err-clause-goes
returns-in-Err-clause-goes g c =
    let read : Result (FrameHead × List ℕ) StoreFault = Err c.in-Err.fault in
    subst (λ (at : SeenPlace). GoesAt at.place c.args.desks.now.desks c.read_frame.new.self.desks
    (λ (d e : SeenDesk g.row.D.Denot). DeskGoes g.D.Disk.medium d e (frame_read c.args.number read ∷ []))) c.at.view_is
    c.in-Err.ensures.goes
