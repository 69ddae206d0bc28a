use Rattle.std.proofs.Common.{ap, sym, ◌∙◌}
use Rattle.loop_desk.specs.Desk.{frame_read}
use Rattle.loop_pipeline.proofs.Seating.{head-bare, no-notes}
use Rattle.loop_pipeline.proofs.seat.Seat.read_head.Goals as goal

pub invariant_of-self-2 : goal.invariant_of-self-2
invariant_of-self-2 g c =
    c.add_note.ensures _ _ _ _ c.read_head-answer.ensures.goes.1
    (ap (frame_read c.args.number) (head-bare c.read_head-answer.result c.read_head-answer.ensures.goes.0))
    (c.room_for_note.ensures.same _ _ c.self.invariant)

pub returns-then-not-room_for_note-clause-alone : goal.returns-then-not-room_for_note-clause-alone
returns-then-not-room_for_note-clause-alone g c alone =
    sym c.if-not-room_for_note.true
    ∙ c.room_for_note.ensures.alone (no-notes g.D.Disk.medium _ _ _ c.self.invariant alone)
