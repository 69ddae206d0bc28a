use Rattle.std.proofs.Common.{◌<◌, ap, sym, ◌∙◌}
use Rattle.loop_pages.specs.Place.{Place}
use Rattle.loop_pages.proofs.Keeps.{free_keeps}
use Rattle.loop_pages.proofs.ledger.PageLedger.free_page.Goals as goal

pub store-requires : goal.store-requires
store-requires g c =
    let here = ap (λ (p : Place). p.ledger) c.seat.view_is ∙ c.requires.ledger ∙ sym c.self.view_is in
    let within : c.args.page < c.self.inside.table.shared.table_id.words = rw c.self.view_is c.requires.page in
    let last = ap (λ (p : Place). p.pages) c.seat.view_is ∙ c.requires.last.1 in
    (here, within, free_keeps _ _ _ _ _ _ (rw c.self.invariant.1 within) last)
