use Rattle.std.proofs.Common.{refl, sym, ◌∙◌}
use Rattle.loop_pipeline.proofs.Seating.{no-notes}
use Rattle.loop_pipeline.proofs.seat.Seat.flush.Goals as goal

pub invariant_of-self-2 : goal.invariant_of-self-2
invariant_of-self-2 g c =
    c.add_note.ensures _ _ _ _ c.flush-answer.ensures.goes refl (c.room_for_note.ensures.same _ _ c.self.invariant)

pub returns-then-not-room_for_note-clause-alone : goal.returns-then-not-room_for_note-clause-alone
returns-then-not-room_for_note-clause-alone g c alone =
    sym c.if-not-room_for_note.true
    ∙ c.room_for_note.ensures.alone (no-notes g.D.Disk.medium _ _ _ c.self.invariant alone)
