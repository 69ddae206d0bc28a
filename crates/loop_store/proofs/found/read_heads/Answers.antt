use Rattle.std.proofs.Common.{None, sym, subst, arith}
use Rattle.std.specs.List.{All}
use Rattle.std.proofs.lemmas.List.Elements.{All-push}
use Rattle.loop_disk.proofs.Moments.{called_on}
use Rattle.loop_record.proofs.FoundSegments.{some-high}
use Rattle.loop_ring.proofs.SlotReads.{stays_on}
use Rattle.loop_store.specs.Found.{IsHeadIn}
use Rattle.loop_store.proofs.RecoveredParts.{finds-on, heads-more}
use Rattle.loop_store.proofs.found.read_heads.Goals as goal

pub returns-in_err-head-clause-finds : goal.returns-in_err-head-clause-finds
returns-in_err-head-clause-finds g c =
    let h = c.args.geometry.now in
    let here = c.loop-segment.invariant in
    finds-on _ c.in_err-head.field-0.0 _ _ _ _ _ _ _
    (λ image may fault q. (q.0, some-high h image c.loop-segment.segment (omega arith) q.1)) here.gives
    here.stays here.called c.from_residual-in_err-head.ensures.1 c.in_err-head.ensures.finds

pub loop-segment-preserved : goal.loop-segment-preserved
loop-segment-preserved g c =
    let h = c.args.geometry.now in
    let here = c.loop-segment.invariant in record {
      count = omega (arith, here.count, c.push_reserved.ensures.len);
      capacity = omega (arith, here.capacity, c.push_reserved.ensures.capacity);
      within = subst (All (IsHeadIn h)) (sym c.push_reserved.ensures.items)
          (All-push (IsHeadIn h) c.loop-segment.heads.items c.in_ok-head.head here.within c.in_ok-head.ensures.within);
      called = called_on _ _ _ None here.called c.in_ok-head.ensures.finds.called;
      stays = λ honest. stays_on _ _ _ (here.stays honest) (c.in_ok-head.ensures.finds.stays (here.called.honest.0 honest));
      gives = λ image may. here.gives image (c.in_ok-head.ensures.finds.gives image may);
      heads = λ image may. heads-more h image c.loop-segment.segment c.in_ok-head.head c.loop-segment.heads.items
          c.push_reserved.new.self.items (c.in_ok-head.ensures.finds.found image may)
          (here.heads image (c.in_ok-head.ensures.finds.gives image may)) c.push_reserved.ensures.items;
    }
