use Rattle.std.proofs.Common.{◌≡◌, ◌≤◌, ◌<◌, length, vec_capacity}
use Rattle.loop_pages.specs.Claims.{IsTried}
use Rattle.loop_pages.specs.Words.{missed_before}
use Rattle.loop_pages.proofs.hold.try_each.Given as goal

abbrev pub invariant-loop-page : goal.invariant-loop-page
invariant-loop-page g l = record {
  ledger : l.seat.ledger ≡ l.ledger;
  held : l.seat.pages ≡ l.pages.items;
  tried : IsTried l.page l.pages.items (missed_before l.page l.seat.missed) l.initial.seat.tried l.seat.tried;
  few : length l.pages.items < l.count;
  room : l.count ≤ vec_capacity l.pages;
}
