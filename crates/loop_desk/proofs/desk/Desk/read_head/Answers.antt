use Rattle.std.proofs.Common.{[], ◌∷◌, subst}
use Rattle.loop_record.specs.Plain.{pictures}
use Rattle.loop_store.specs.Calls.{read_with}
use Rattle.loop_desk.specs.Desk.{frame_read}
use Rattle.loop_desk.specs.Seen.{DeskGoes, SeenDesk}
use Rattle.loop_desk.proofs.OneCall.{goes-read, with_store}
use Rattle.loop_desk.proofs.desk.Desk.read_head.Goals as goal

pub returns-clause-goes : goal.returns-clause-goes
returns-clause-goes g c =
    let s = c.self.inside in
    let d : SeenDesk g.row.D.Denot = record { store = s.store; pending = pictures s.pending.items; limits = s.limits } in
    let goes = c.read_head.ensures.goes in
    let read = read_with c.read_head.result goes.0 in (
      goes.0,
      subst (λ (v : SeenDesk g.row.D.Denot). DeskGoes g.D.Disk.medium v (with_store d c.read_head.new.self d.pending)
          (frame_read c.args.number read ∷ [])) c.self.view_is
          (goes-read g.D.Disk.medium d c.read_head.new.self c.args.number read goes.1),
    )
