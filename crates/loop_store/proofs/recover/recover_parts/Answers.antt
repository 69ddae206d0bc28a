use Rattle.std.proofs.Common.{◌≡◌, None, ℕ, ◌≤◌, List, [], length, sym, ap, ◌∙◌, subst, arith}
use Rattle.std.proofs.lemmas.List.{with_items_is}
use Rattle.loop_record.specs.Plain.{AreIn}
use Rattle.loop_record.specs.Recording.{last_number, ring_of}
use Rattle.loop_record.proofs.Bounds.{limits}
use Rattle.loop_record.proofs.Parts.{super-parts}
use Rattle.loop_record.proofs.FoundSegments.{AreFull, read-lacks, read-repeats}
use Rattle.loop_disk.proofs.Moments.{called_on}
use Rattle.loop_ring.proofs.SlotReads.{stays_on}
use Rattle.loop_ring.specs.declared.group.SlotStamp.{SlotStamp}
use Rattle.loop_ring.specs.Heads.{Segments, in_order}
use Rattle.loop_store.specs.Index.{IsOf}
use Rattle.loop_store.proofs.SegmentOrder.{order-within}
use Rattle.loop_store.proofs.TimeReads.{stamped-index}
use Rattle.loop_store.proofs.IndexOpenings.{says-recording}
use Rattle.loop_store.proofs.AnswerPairs.{called-none}
use Rattle.loop_store.proofs.CallRuns.{stays-still}
use Rattle.loop_store.proofs.RecoveredParts.{finds-on}
use Rattle.loop_store.proofs.RecoveredWhole.{fitting, found-by, full, recovered, refused-clip, refused-head, refused-slot}
use Rattle.loop_store.proofs.Openings.{next-few}
use Rattle.loop_store.proofs.recover.recover_parts.Given.{Over}
use Rattle.loop_store.proofs.recover.recover_parts.Goals as goal

pub check_slots-requires-clause-within : goal.check_slots-requires-clause-within
check_slots-requires-clause-within g c =
    order-within c.args.head.geometry c.in_ok-heads.heads.items _ c.in_ok-heads.ensures.count c.in_ok-heads.ensures.within
    (c.in_order-open.ensures ∙ ap (λ (s : Segments). in_order 0 s.heads) c.in_ok-table.ensures)

pub read_table-requires-clause-within : goal.read_table-requires-clause-within
read_table-requires-clause-within g c =
    order-within c.args.head.geometry c.in_ok-heads.heads.items _ c.in_ok-heads.ensures.count c.in_ok-heads.ensures.within
    (c.in_order-open.ensures ∙ ap (λ (s : Segments). in_order 0 s.heads) c.in_ok-table.ensures)

pub next_after-next-requires-clause-within : goal.next_after-next-requires-clause-within
next_after-next-requires-clause-within g c =
    order-within c.args.head.geometry c.in_ok-heads.heads.items _ c.in_ok-heads.ensures.count c.in_ok-heads.ensures.within
    (c.in_order-open.ensures ∙ ap (λ (s : Segments). in_order 0 s.heads) c.in_ok-table.ensures)

pub returns-in_err-heads-clause-finds : goal.returns-in_err-heads-clause-finds
returns-in_err-heads-clause-finds g c =
    let m = g.D.Disk.medium c.args.disk.now in
    finds-on _ c.in_err-heads.field-0.0 _ _ _ _ m m _ (λ image may fault q says.
    refused-head c.args.head.geometry image fault (super-parts c.args.head image says).0 (may.size ∙ c.requires.fits.1) q)
    (λ image may. may) (λ honest. stays-still m) (called-none m) c.from_residual.ensures.1 c.in_err-heads.ensures.finds

pub returns-then-repeats-clause-finds : goal.returns-then-repeats-clause-finds
returns-then-repeats-clause-finds g c = record {
  found = λ image may says.
      let h = c.args.head.geometry in
      let heads = c.in_ok-heads.heads.items in
      let fs = c.in_order-open.result.now in
      let is = c.in_order-open.ensures ∙ ap (λ (s : Segments). in_order 0 s.heads) c.in_ok-table.ensures in
      let found = found-by h image fs heads (super-parts c.args.head image says).0
      ((c.in_ok-heads.ensures.finds.gives image may).size ∙ c.requires.fits.1) (c.in_ok-heads.ensures.finds.found image may)
      (order-within h heads fs c.in_ok-heads.ensures.count c.in_ok-heads.ensures.within is) is in
      read-repeats h image fs c.repeats.result found (c.repeats.ensures h image) c.if-repeats.true;
  gives = c.in_ok-heads.ensures.finds.gives;
  stays = c.in_ok-heads.ensures.finds.stays;
  called = c.in_ok-heads.ensures.finds.called;
}

pub returns-then-lacks_frame-clause-finds : goal.returns-then-lacks_frame-clause-finds
returns-then-lacks_frame-clause-finds g c = record {
  found = λ image may says.
      let h = c.args.head.geometry in
      let heads = c.in_ok-heads.heads.items in
      let fs = c.in_order-open.result.now in
      let is = c.in_order-open.ensures ∙ ap (λ (s : Segments). in_order 0 s.heads) c.in_ok-table.ensures in
      let found = found-by h image fs heads (super-parts c.args.head image says).0
      ((c.in_ok-heads.ensures.finds.gives image may).size ∙ c.requires.fits.1) (c.in_ok-heads.ensures.finds.found image may)
      (order-within h heads fs c.in_ok-heads.ensures.count c.in_ok-heads.ensures.within is) is in
      read-lacks h image fs c.repeats.result c.lacks_frame.result found
      (c.repeats.ensures h image) c.if-repeats.false (c.lacks_frame.ensures image) c.if-lacks_frame.true;
  gives = c.in_ok-heads.ensures.finds.gives;
  stays = c.in_ok-heads.ensures.finds.stays;
  called = c.in_ok-heads.ensures.finds.called;
}

pub returns-in_err-check_slots-clause-finds : goal.returns-in_err-check_slots-clause-finds
returns-in_err-check_slots-clause-finds g c = finds-on _ c.in_err-check_slots.field-0.0 _ _ _ _ _ _ _ (λ image may fault q says.
    let h = c.args.head.geometry in
    let heads = c.in_ok-heads.heads.items in
    let fs = c.in_order-open.result.now in
    let is = c.in_order-open.ensures ∙ ap (λ (s : Segments). in_order 0 s.heads) c.in_ok-table.ensures in
    let found = found-by h image fs heads (super-parts c.args.head image says).0
    ((c.in_ok-heads.ensures.finds.gives image may).size ∙ c.requires.fits.1) (c.in_ok-heads.ensures.finds.found image may)
    (order-within h heads fs c.in_ok-heads.ensures.count c.in_ok-heads.ensures.within is) is in
    let all : AreFull h image fs = full h image fs c.repeats.result c.lacks_frame.result found
    (c.repeats.ensures h image) c.if-repeats.false (c.lacks_frame.ensures image) c.if-lacks_frame.false in
    refused-slot h image fs fault all q) c.in_ok-heads.ensures.finds.gives c.in_ok-heads.ensures.finds.stays
    c.in_ok-heads.ensures.finds.called c.from_residual-in_err-check_slots.ensures.1 c.in_err-check_slots.ensures.finds

pub returns-in_err-clips-clause-finds : goal.returns-in_err-clips-clause-finds
returns-in_err-clips-clause-finds g c = finds-on _ c.in_err-clips.field-0.0 _ _ _ _ _ _ _ (λ image last fault q says.
    let may = c.in_ok-check_slots.ensures.finds.gives image last in
    let h = c.args.head.geometry in
    let heads = c.in_ok-heads.heads.items in
    let fs = c.in_order-open.result.now in
    let is = c.in_order-open.ensures ∙ ap (λ (s : Segments). in_order 0 s.heads) c.in_ok-table.ensures in
    let found = found-by h image fs heads (super-parts c.args.head image says).0
    ((c.in_ok-heads.ensures.finds.gives image may).size ∙ c.requires.fits.1) (c.in_ok-heads.ensures.finds.found image may)
    (order-within h heads fs c.in_ok-heads.ensures.count c.in_ok-heads.ensures.within is) is in
    let all : AreFull h image fs = full h image fs c.repeats.result c.lacks_frame.result found
    (c.repeats.ensures h image) c.if-repeats.false (c.lacks_frame.ensures image) c.if-lacks_frame.false in
    refused-clip h image fs fault all (c.in_ok-check_slots.ensures.finds.found image last).0
    (q (super-parts c.args.head image says).1))
    (λ image may. c.in_ok-heads.ensures.finds.gives image (c.in_ok-check_slots.ensures.finds.gives image may))
    (λ honest. stays_on _ _ _ (c.in_ok-heads.ensures.finds.stays honest)
    (c.in_ok-check_slots.ensures.finds.stays (c.in_ok-heads.ensures.finds.called.honest.0 honest)))
    (called_on _ _ _ None c.in_ok-heads.ensures.finds.called c.in_ok-check_slots.ensures.finds.called)
    c.from_residual-in_err-clips.ensures.1 c.in_err-clips.ensures.finds

stamps-are : (g : Over) (c : goal.After-index_of g) → c.index_of.result.stamps.items ≡ c.check_slots.new.stamps
stamps-are g c =
    let room = c.in_ok-check_slots.ensures.room in
    let long = ap (λ (ts : List SlotStamp). length ts) c.as_mut_slice.ensures.value in
    ap (λ v. v.items) c.index_of.ensures.stamps
    ∙ with_items_is c.in_ok-stamps.stamps c.check_slots.new.stamps (omega (arith, room, long, c.in_ok-stamps.stamps.ok.0))

index-is : (g : Over) (c : goal.After-index_of g)
    → IsOf c.index_of.result c.args.head.geometry c.in_ok-heads.heads.items c.in_ok-clips.clips c.next_after-next.result
index-is g c = subst (λ (s : Segments). IsOf c.index_of.result c.args.head.geometry s.heads c.in_ok-clips.clips
    c.next_after-next.result) c.in_ok-table.ensures c.index_of.ensures.of

open-is : (g : Over) (c : goal.After-index_of g) → c.in_order-open.result.now ≡ in_order 0 c.in_ok-heads.heads.items
open-is g c = c.in_order-open.ensures ∙ ap (λ (s : Segments). in_order 0 s.heads) c.in_ok-table.ensures

open-within : (g : Over) (c : goal.After-index_of g) → AreIn c.args.head.geometry c.in_order-open.result.now
open-within g c = order-within c.args.head.geometry c.in_ok-heads.heads.items _ c.in_ok-heads.ensures.count
    c.in_ok-heads.ensures.within (open-is g c)

pub returns-clause-finds : goal.returns-clause-finds
returns-clause-finds g c = record {
  found = λ image end says.
      let last = c.in_ok-clips.ensures.finds.gives image end in
      let may = c.in_ok-check_slots.ensures.finds.gives image last in
      let h = c.args.head.geometry in
      let heads = c.in_ok-heads.heads.items in
      let fs = c.in_order-open.result.now in
      let found = found-by h image fs heads (super-parts c.args.head image says).0
      ((c.in_ok-heads.ensures.finds.gives image may).size ∙ c.requires.fits.1) (c.in_ok-heads.ensures.finds.found image may)
      (open-within g c) (open-is g c) in
      let all : AreFull h image fs = full h image fs c.repeats.result c.lacks_frame.result found
      (c.repeats.ensures h image) c.if-repeats.false (c.lacks_frame.ensures image) c.if-lacks_frame.false in
      let checked = c.in_ok-check_slots.ensures.finds.found image last in
      let version = (super-parts c.args.head image says).1 in (
        recovered c.index_of.result h image fs heads c.in_ok-clips.clips c.next_after-next.result (index-is g c) all checked.0
            (c.in_ok-clips.ensures.finds.found image end version) (c.next_after-next.ensures image)
            (c.in_ok-heads.ensures.finds.found image may),
        (
          version ∙ sym c.index_of.ensures.version,
          stamped-index c.index_of.result h heads c.in_ok-clips.clips c.next_after-next.result c.check_slots.new.stamps image fs
              (index-is g c) (stamps-are g c) (c.in_ok-heads.ensures.finds.found image may) (open-is g c) checked.1.0,
        ),
      );
  gives = λ image end. c.in_ok-heads.ensures.finds.gives image
      (c.in_ok-check_slots.ensures.finds.gives image (c.in_ok-clips.ensures.finds.gives image end));
  stays = λ honest.
      let second = c.in_ok-heads.ensures.finds.called.honest.0 honest in
      stays_on _ _ _ (stays_on _ _ _ (c.in_ok-heads.ensures.finds.stays honest)
      (c.in_ok-check_slots.ensures.finds.stays second))
      (c.in_ok-clips.ensures.finds.stays (c.in_ok-check_slots.ensures.finds.called.honest.0 second));
  called = called_on _ _ _ None
      (called_on _ _ _ None c.in_ok-heads.ensures.finds.called c.in_ok-check_slots.ensures.finds.called)
      c.in_ok-clips.ensures.finds.called;
}

pub returns-clause-known : goal.returns-clause-known
returns-clause-known g c =
    let h = c.args.head.geometry in
    let heads = c.in_ok-heads.heads.items in
    let fs = c.in_order-open.result.now in (
      fitting c.index_of.result h heads c.in_ok-clips.clips c.next_after-next.result (g.D.Disk.medium c.args.disk.now).size
          (index-is g c) c.requires.fits.1 c.in_ok-heads.ensures.count c.in_ok-heads.ensures.within
          (subst (λ (n : ℕ). n ≤ last_number (ring_of h)) (sym (c.next_after-next.ensures []))
          (next-few h [] fs (limits h c.requires.fits.0).slots.0 (open-within g c)))
          (ap (λ (ts : List SlotStamp). length ts) (stamps-are g c) ∙ c.in_ok-check_slots.ensures.room
          ∙ ap (λ (ts : List SlotStamp). length ts) c.as_mut_slice.ensures.value ∙ c.in_ok-stamps.ensures),
      says-recording c.index_of.result h heads c.in_ok-clips.clips fs c.next_after-next.result (index-is g c) (record {
        good = c.requires.fits.0;
        count = c.in_ok-heads.ensures.count;
        stand = c.in_ok-heads.ensures.within;
        found = open-is g c;
        single = λ image. sym (c.repeats.ensures h image) ∙ c.if-repeats.false;
        full = λ image. sym (c.lacks_frame.ensures image) ∙ c.if-lacks_frame.false;
        ids = c.in_ok-clips.ensures.held.0;
        held = c.in_ok-clips.ensures.held.1;
        tags = c.in_ok-clips.ensures.tags;
        next_is = λ image. c.next_after-next.ensures image;
      }),
    )
