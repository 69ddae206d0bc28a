use Rattle.loop_store.proofs.Openings.{refused-honest}
use Rattle.loop_lane.proofs.StopImages.{for-want, reopened}
use Rattle.loop_lane.proofs.text.run_and_reopen.Goals as goal

pub returns-in-Ok-open : goal.returns-in-Ok-open
returns-in-Ok-open g c = λ s stands fine is.
    reopened g.P.PlaneMemory.plane g.D.Disk.medium g.E.Disk.medium c.args.lane.now c.lane_run.new.lane c.args.events.items c.in-Ok.replies.items s c.args.left
    c.in-Ok.ensures.headline c.in-Ok-open.store stands fine is (c.in-Ok-open.ensures.opened is.other_honest)

pub returns-in-Err-open : goal.returns-in-Err-open
returns-in-Err-open g c = λ s stands fine is.
    for-want g.P.PlaneMemory.plane g.D.Disk.medium g.E.Disk.medium c.args.lane.now c.lane_run.new.lane c.args.events.items c.in-Ok.replies.items s c.args.left
    c.in-Ok.ensures.headline c.in-Err-open.field-0.fault stands fine is
    (refused-honest (g.E.Disk.medium c.args.left) (g.E.Disk.medium c.in-Err-open.field-0.disk) 1 c.in-Err-open.field-0.fault
    c.in-Err-open.ensures.called.honest.0 (λ now. g.met.E.Disk.sound c.in-Err-open.field-0.disk now)
    c.in-Err-open.ensures.stays c.in-Err-open.ensures.refused is.other_honest)
