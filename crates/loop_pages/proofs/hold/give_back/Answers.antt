use Rattle.std.proofs.Common.{ap, ◌∙◌}
use Rattle.loop_pages.specs.Place.{Place}
use Rattle.loop_pages.proofs.Keeps.{last_within}
use Rattle.loop_pages.proofs.hold.give_back.Goals as goal

pub free_page-requires : goal.free_page-requires
free_page-requires g c =
    let kept = c.loop-page.invariant in
    let popped = c.in-Some.ensures.items in record {
      ledger = ap (λ (p : Place). p.ledger) kept.seat;
      page = last_within _ _ _ _ popped kept.within;
      last = (_, ap (λ (p : Place). p.pages) kept.seat ∙ popped);
    }
