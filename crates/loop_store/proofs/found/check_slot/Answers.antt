use Rattle.loop_record.specs.Geometry.{frame_bytes, slot_at}
use Rattle.loop_record.specs.Layout.{slot_in}
use Rattle.loop_record.proofs.FoundSegments.{slot-wrong}
use Rattle.loop_store.proofs.RecoveredParts.{finds-err, slot-read, slot-right}
use Rattle.loop_store.proofs.TimeReads.{slot-stamp}
use Rattle.loop_store.specs.declared.fault.StoreFault.{StoreFault}
use Rattle.loop_store.proofs.found.check_slot.Goals as goal

pub returns-in_err-head : goal.returns-in_err-head
returns-in_err-head g c =
    let h = c.args.geometry.now in
    finds-err _ (StoreFault.Damaged c.in_err-head.field-0.0) _ _ _ _
    (λ image may. slot-wrong (frame_bytes h) c.args.number (slot_in (frame_bytes h) image (slot_at h c.args.segment c.args.slot)) c.in_err-head.field-0.0
    (slot-read h c.args.segment c.args.slot c.args.number c.slot_at.result c.frame_bytes.result image c.read.new.buf _
    c.slot_at.ensures c.frame_bytes.ensures (c.in_ok-read.ensures.gives image may).1 c.in_err-head.ensures.head))
    (λ image may. (c.in_ok-read.ensures.gives image may).0)
    c.in_ok-read.ensures.disk c.in_ok-read.ensures.called c.from_residual-in_err-head.ensures.1

pub returns : goal.returns
returns g c =
    let h = c.args.geometry.now in
    record {
      found = λ image may.
          let there = slot_in (frame_bytes h) image (slot_at h c.args.segment c.args.slot) in
          let is = slot-read h c.args.segment c.args.slot c.args.number c.slot_at.result c.frame_bytes.result image
          c.read.new.buf _ c.slot_at.ensures c.frame_bytes.ensures (c.in_ok-read.ensures.gives image may).1
          c.in_ok-head.ensures.head in
          (slot-right (frame_bytes h) c.args.number there _ is, slot-stamp (frame_bytes h) c.args.number there _ is);
      gives = λ image may. (c.in_ok-read.ensures.gives image may).0;
      stays = c.in_ok-read.ensures.disk;
      called = c.in_ok-read.ensures.called;
    }
