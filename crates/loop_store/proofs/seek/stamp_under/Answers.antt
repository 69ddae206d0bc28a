use Rattle.std.proofs.Common.{None, Some, refl, ap, sym}
use Rattle.loop_store.specs.Times.{stamp_at}
use Rattle.loop_store.proofs.SlotLooks.{found-at}
use Rattle.loop_store.proofs.TimeRuns.{stamp-read}
use Rattle.loop_store.proofs.seek.stamp_under.Goals as goal

pub returns-in-Some : goal.returns-in-Some
returns-in-Some g c =
    let s = c.args.index.now in
    stamp-read s c.args.number c.from-slots.result c.in-Some.segment _ c.requires c.from-slots.ensures c.in-Some.ensures.within
    (found-at s.table.heads s.table.heads s.ring.geometry.slots c.args.number c.from-slots.result c.find.result
    (Some c.in-Some.segment) refl c.from-slots.ensures c.find.ensures.place c.in-Some.is) c.index.ensures

pub returns-in-None : goal.returns-in-None
returns-in-None g c =
    let s = c.args.index.now in
    ap (stamp_at s.ring.geometry.slots s.stamps.items c.args.number)
    (sym (found-at s.table.heads s.table.heads s.ring.geometry.slots c.args.number c.from-slots.result c.find.result
    None refl c.from-slots.ensures c.find.ensures.place c.in-None.is))
