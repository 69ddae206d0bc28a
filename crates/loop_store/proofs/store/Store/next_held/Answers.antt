use Rattle.std.proofs.Common.{sym, subst}
use Rattle.loop_record.proofs.Bounds.{limits}
use Rattle.loop_store.specs.Numbers.{IsLeastFrom, is_among}
use Rattle.loop_store.specs.Seen.{Seen}
use Rattle.loop_store.proofs.Least.{least-low, least-same}
use Rattle.loop_store.proofs.Numbers.{among-under}
use Rattle.loop_store.proofs.store.Store.next_held.Goals as goal

pub returns-clause-least : goal.returns-clause-least
returns-clause-least g c =
    let i = c.self.inside.index in
    let h = i.ring.geometry in
    subst (λ (v : Seen g.row.D.Denot). IsLeastFrom (is_among v.numbers) c.args.number c.next_held.result) c.self.view_is
    (least-same _ _ c.args.number c.next_held.result
    (λ n. sym (among-under h n i.table.heads (limits h i.ring.good).slots.0 c.self.invariant.fits.whole.within))
    c.next_held.ensures)

pub returns-clause-low : goal.returns-clause-low
returns-clause-low g c =
    let i = c.self.inside.index in
    let h = i.ring.geometry in
    least-low h i.table.heads c.args.number c.next_held.result (limits h i.ring.good).slots.0 c.self.invariant.fits.whole.within c.next_held.ensures
