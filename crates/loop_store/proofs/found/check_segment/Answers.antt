use Rattle.std.proofs.Common.{◌≡◌, None, ℕ, ◌*◌, ◌+◌, ◌<◌, ◌∙◌, length, ap, not, refl, subst, sym, arith}
use Rattle.std.proofs.lemmas.List.{length-set}
use Rattle.loop_disk.proofs.Moments.{called_on}
use Rattle.loop_ring.proofs.SlotReads.{stays_on}
use Rattle.loop_store.proofs.RecoveredParts.{finds-on, slots-wrong, slots-right}
use Rattle.loop_record.specs.Geometry.{frame_bytes}
use Rattle.loop_record.proofs.FoundSegments.{read_slots}
use Rattle.loop_store.specs.Times.{AreStamped}
use Rattle.loop_store.proofs.TimeReads.{keeps-on, keeps-stamped, place-within, stamped-more}
use Rattle.loop_store.proofs.found.check_segment.Given.{Over}
use Rattle.loop_store.proofs.found.check_segment.Goals as goal
use Rattle.loop_record.proofs.Names.{hold_from}

pub returns-in_err-stamp-clause-finds : goal.returns-in_err-stamp-clause-finds
returns-in_err-stamp-clause-finds g c =
    let h = c.args.geometry.now in
    let here = c.loop-slot.invariant in
    let first = ap (λ (k : ℕ). c.args.found.block * k) c.from.ensures in
    finds-on _ c.in_err-stamp.field-0.0 _ _ _ _ _ _ _
    (λ image may fault q. (
      q.0,
      slots-wrong h image c.args.found c.loop-slot.slot (c.args.found.block * c.from.result + c.from-in-loop-slot.result)
          (omega (arith, first, c.from-in-loop-slot.ensures)) (omega arith) q.1,
    ))
    here.gives here.stays here.called c.from_residual.ensures.1 c.in_err-stamp.ensures

low : (g : Over) (c : goal.In_ok-stamp g) → c.loop-slot.slot < c.args.geometry.now.slots
low g c = omega (arith, c.requires.few)

inside : (g : Over) (c : goal.In_ok-stamp g)
    → c.args.found.segment * c.args.geometry.now.slots + c.loop-slot.slot < length c.loop-slot.stamps
inside g c =
    let h = c.args.geometry.now in
    omega (
      arith,
      place-within h.segments h.slots c.args.found.segment c.loop-slot.slot c.requires.segment (low g c),
      c.requires.room,
      c.loop-slot.invariant.room,
    )

pub loop-slot-preserved : goal.loop-slot-preserved
loop-slot-preserved g c =
    let h = c.args.geometry.now in
    let here = c.loop-slot.invariant in
    let first = ap (λ (k : ℕ). c.args.found.block * k) c.from.ensures in record {
      called = called_on _ _ _ None here.called c.in_ok-stamp.ensures.called;
      stays = λ honest. stays_on _ _ _ (here.stays honest) (c.in_ok-stamp.ensures.stays (here.called.honest.0 honest));
      gives = λ image may. here.gives image (c.in_ok-stamp.ensures.gives image may);
      hold = λ image may. slots-right h image c.args.found.segment c.loop-slot.slot (c.args.found.block * h.slots)
          (c.args.found.block * c.from.result + c.from-in-loop-slot.result)
          (omega (arith, first, c.from-in-loop-slot.ensures)) (here.hold image (c.in_ok-stamp.ensures.gives image may))
          (c.in_ok-stamp.ensures.found image may).0;
      room = length-set c.loop-slot.stamps (c.args.found.segment * h.slots + c.loop-slot.slot) c.in_ok-stamp.stamp ∙ here.room;
      stamped = λ image may. stamped-more h image c.args.found.segment c.loop-slot.slot _ c.in_ok-stamp.stamp
          c.loop-slot.stamps _ (inside g c) (low g c) refl (c.in_ok-stamp.ensures.found image may).1 refl
          (here.stamped image (c.in_ok-stamp.ensures.gives image may));
      keeps = λ image may. keeps-on h image c.args.stamps.now c.loop-slot.stamps _
          (here.keeps image (c.in_ok-stamp.ensures.gives image may))
          (keeps-stamped h image c.args.found.segment c.loop-slot.slot _ c.in_ok-stamp.stamp
          c.loop-slot.stamps _ (inside g c) (low g c) refl (c.in_ok-stamp.ensures.found image may).1 refl);
    }

pub returns-clause-finds : goal.returns-clause-finds
returns-clause-finds g c =
    let h = c.args.geometry.now in
    let f = c.args.found in
    let here = c.loop-slot.invariant in
    let end : c.loop-slot.slot ≡ f.frames = omega arith in
    record {
      found = λ image may. (
        ap (λ (k : ℕ). not (hold_from (frame_bytes h) (f.block * h.slots) (read_slots h image f.segment k))) (sym end)
            ∙ ap not (here.hold image may),
        (subst (AreStamped h image c.loop-slot.stamps f.segment) end (here.stamped image may), here.keeps image may),
      );
      gives = here.gives;
      stays = here.stays;
      called = here.called;
    }
