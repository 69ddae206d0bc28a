use Rattle.std.proofs.Common.{◌≡◌, ◌<◌, length}
use Rattle.std.specs.List.{All}
use Rattle.loop_pages.specs.Place.{place}
use Rattle.loop_pages.proofs.hold.give_back.Given as goal

abbrev pub invariant-loop-page : goal.invariant-loop-page
invariant-loop-page g l = record {
  seat : l.seat ≡ place l.ledger l.pages.items l.initial.seat.missed l.initial.seat.tried;
  within : All (λ page. page < l.ledger.words) l.pages.items;
}

abbrev pub decreases-loop-page : goal.decreases-loop-page
decreases-loop-page g l = length l.pages.items
