use Rattle.std.proofs.Common.{◌≡◌, false, true, subst, sym, ◌∙◌}
use Rattle.loop_desk.specs.Seen.{SeenDesk}
use Rattle.loop_pipeline.specs.Seats.{IsAsked}
use Rattle.loop_pipeline.proofs.Seating.{asked, no-notes, submit-noted}
use Rattle.loop_pipeline.proofs.seat.Seat.submit_from.Goals as goal

pub invariant_of-self-2 : goal.invariant_of-self-2
invariant_of-self-2 g c =
    rw c.give_back.ensures
    (c.add_note.ensures _ _ _ _ c.submit-answer.ensures.goes
    (submit-noted c.in-Ok.frame c.submit-answer.result _ _ _ c.stamp_of-info.ensures
    (c.len-size.ensures ∙ c.in-Ok.frame.bytes.ok.0) c.answer_of-told.ensures)
    (c.room_for_note.ensures.same _ _ c.self.invariant))

pub returns-clause-takes : goal.returns-clause-takes
returns-clause-takes g c =
    subst (λ (d : SeenDesk g.row.D.Denot). IsAsked g.D.Disk.medium d c.give_back.new.desk c.args.from.now c.pop.new.self
    c.stamp_of-info.result c.answer_of-told.result) c.self.view_is
    (asked g.D.Disk.medium _ c.submit-answer.new.self c.give_back.new.desk _ _ c.in-Ok.frame c.submit-answer.result _ _
    c.in-Ok.ensures.ok.0 c.in-Ok.ensures.ring c.stamp_of-info.ensures c.answer_of-told.ensures c.submit-answer.ensures.goes
    c.submit-answer.ensures.same c.give_back.ensures)

pub returns-then-not-room_for_note-clause-alone : goal.returns-then-not-room_for_note-clause-alone
returns-then-not-room_for_note-clause-alone g c alone is =
    absurd (let both : false ≡ true = sym c.if-not-room_for_note.true
    ∙ c.room_for_note.ensures.alone (no-notes g.D.Disk.medium _ _ _ c.self.invariant alone) in cc)
