use Rattle.std.proofs.Common.{sym, arith}
use Rattle.loop_station_words.proofs.Rings.{largest-few, largest-middle}
use Rattle.loop_station_words.proofs.ring.largest_ring.Goals as goal

pub returns-then-segments-ge2-clause-largest : goal.returns-then-segments-ge2-clause-largest
returns-then-segments-ge2-clause-largest c =
    rw (c.ring-then-segments-ge2.ensures, sym c.from-slot.ensures)
    (largest-middle c.args.usual c.from-slot.result c.args.bytes c.saturating_sub-room.result c.fitting-segments.result
    c.saturating_sub-room.ensures (omega arith) (omega arith) (omega arith) (omega arith) c.fitting-segments.ensures.fits
    c.fitting-segments.ensures.most)

pub returns-clause-largest : goal.returns-clause-largest
returns-clause-largest c =
    rw (c.ring-2.ensures, sym c.from-slot.ensures)
    (largest-few c.args.usual c.from-slot.result c.args.bytes c.saturating_sub-room.result c.slots_within-slots.result
    c.saturating_sub-room.ensures (omega arith) c.slots_within-slots.ensures.few
    (c.slots_within-slots.ensures.fits (omega arith))
    (λ m le fit. omega (arith, c.fitting-segments.ensures.most m le fit, c.if-segments-ge2.false))
    c.slots_within-slots.ensures.most)
