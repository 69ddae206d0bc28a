use Rattle.std.proofs.Common.{◌≡◌, sym, ◌∙◌, subst}
use Rattle.loop_record.proofs.Bounds.{limits}
use Rattle.loop_store.specs.Numbers.{is_among}
use Rattle.loop_store.specs.Seen.{Seen}
use Rattle.loop_store.proofs.Numbers.{among-under}
use Rattle.loop_store.proofs.store.Store.holds.Goals as goal

pub returns : goal.returns
returns g c =
    let i = c.self.inside.index in
    let h = i.ring.geometry in
    subst (λ (v : Seen g.row.D.Denot). c.holds.result ≡ is_among v.numbers c.args.number) c.self.view_is
    (c.holds.ensures ∙ sym (among-under h c.args.number i.table.heads (limits h i.ring.good).slots.0 c.self.invariant.fits.whole.within))
