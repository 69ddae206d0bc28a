use Rattle.std.proofs.Common.{◌∙◌, ap, sym, length, arith, vec_len, vec_capacity}
use Rattle.loop_pages.specs.Place.{Place}
use Rattle.loop_pages.proofs.ClaimTries.{got_next, missed_next, got_last, short_of}
use Rattle.loop_pages.proofs.hold.try_each.Goals as goal
use Rattle.loop_pages.proofs.hold.try_each.Goals.{then-take_page+else-len-count, else-take_page}

pub returns-then-len-count-clause-tried : goal.returns-then-len-count-clause-tried
returns-then-len-count-clause-tried g c =
    let kept = c.loop-page.invariant in
    let won = c.if-take_page.ensures in
    got_last _ _ _ _ _ _ _ _ _ _ c.push_reserved.ensures.items (ap (λ (p : Place). p.missed) won)
    (ap (λ (p : Place). p.tried) won) (omega (arith, c.loop-page-test.true, c.count-page-end.ensures.count))
    (omega (arith, c.if-len-count.true, c.len.ensures)) kept.tried

pub loop-page-preserved : goal.loop-page-preserved
loop-page-preserved g c =
    let kept = c.loop-page.invariant in
    elim c.if-take_page.branch [
      | then-take_page+else-len-count w ↦ (
          let won = w.if-take_page.ensures in
          let now = ap (λ v. v.items) w.pages-is ∙ w.push_reserved.ensures.items in
          let room = ap (λ v. vec_capacity v) w.pages-is in
          let size = ap (λ v. vec_len v) w.pages-is in record {
            ledger = ap (λ (p : Place). p.ledger) won;
            held = ap (λ (p : Place). p.pages) won ∙ search (kept.held, sym now);
            tried = got_next _ _ _ _ _ _ _ _ now (ap (λ (p : Place). p.missed) won) (ap (λ (p : Place). p.tried) won) kept.tried;
            few = omega (arith, size, w.if-len-count.false, w.len.ensures, kept.few);
            room = omega (arith, room, w.push_reserved.ensures.capacity, kept.room);
          }
          )
      | else-take_page w ↦ (
          let lost = w.if-take_page.ensures in
          let now = ap (λ v. v.items) w.pages-is in
          let room = ap (λ v. vec_capacity v) w.pages-is in record {
            ledger = ap (λ (p : Place). p.ledger) lost;
            held = ap (λ (p : Place). p.pages) lost ∙ (kept.held ∙ sym now);
            tried = missed_next _ _ _ _ _ _ _ _ now (ap (λ (p : Place). p.missed) lost) (ap (λ (p : Place). p.tried) lost) kept.tried;
            few = omega (arith, ap length now, kept.few);
            room = omega (arith, room, kept.room);
          }
          )
    ]

pub returns-clause-tried : goal.returns-clause-tried
returns-clause-tried g c =
    let kept = c.loop-page.invariant in
    let most = c.count-page-end.ensures in
    short_of _ _ _ _ _ _ _ (omega (arith, c.loop-page-test.false, c.loop-page.auto.page-end)) (omega arith) kept.few kept.tried
