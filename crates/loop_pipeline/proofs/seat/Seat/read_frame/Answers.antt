use Rattle.std.proofs.Common.{ap, sym, ◌∙◌}
use Rattle.loop_desk.specs.Desk.{frame_read}
use Rattle.loop_pipeline.specs.Notes.{head_only}
use Rattle.loop_pipeline.proofs.Seating.{no-notes, read-bare}
use Rattle.loop_pipeline.proofs.seat.Seat.read_frame.Goals as goal

pub invariant_of-self-2 : goal.invariant_of-self-2
invariant_of-self-2 g c =
    c.add_note.ensures _ _ _ _ c.read_frame-answer.ensures.goes
    (ap (λ h. frame_read c.args.number (head_only h)) c.head_of.ensures
    ∙ ap (frame_read c.args.number) (read-bare c.read_frame-answer.result))
    (c.room_for_note.ensures.same _ _ c.self.invariant)

pub returns-then-not-room_for_note-clause-alone : goal.returns-then-not-room_for_note-clause-alone
returns-then-not-room_for_note-clause-alone g c alone =
    sym c.if-not-room_for_note.true
    ∙ c.room_for_note.ensures.alone (no-notes g.D.Disk.medium _ _ _ c.self.invariant alone)
