use Rattle.std.proofs.Common.{ap, sym, ◌∙◌}
use Rattle.loop_pages.specs.Place.{Place}
use Rattle.loop_pages.proofs.Keeps.{split_keeps}
use Rattle.loop_pages.proofs.ledger.PageLedger.split.Goals as goal

pub split_seat-other-requires : goal.split_seat-other-requires
split_seat-other-requires g c =
    let here = ap (λ (p : Place). p.ledger) c.seat.view_is ∙ c.requires.0 ∙ sym c.self.view_is in
    (here, c.self.invariant.0.0, split_keeps _ _ _)
