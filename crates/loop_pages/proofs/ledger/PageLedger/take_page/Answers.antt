use Rattle.std.proofs.Common.{◌<◌, ap, sym, ◌∙◌}
use Rattle.loop_pages.specs.Place.{Place}
use Rattle.loop_pages.proofs.Keeps.{try_keeps}
use Rattle.loop_pages.proofs.ledger.PageLedger.take_page.Goals as goal

pub compare_exchange-found-requires : goal.compare_exchange-found-requires
compare_exchange-found-requires g c =
    let here = ap (λ (p : Place). p.ledger) c.seat.view_is ∙ c.requires.ledger ∙ sym c.self.view_is in
    let within : c.args.page < c.self.inside.table.shared.table_id.words = rw c.self.view_is c.requires.page in
    (here, within, try_keeps _ _ _ _ _ (rw c.self.invariant.1 within))
