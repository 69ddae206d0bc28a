use Rattle.loop_record.specs.Geometry.{segment_at}
use Rattle.loop_record.specs.Layout.{header_at}
use Rattle.loop_store.proofs.RecoveredParts.{finds-err, head-read, head-same, head-in, head-high}
use Rattle.loop_store.specs.declared.fault.StoreFault.{StoreFault}
use Rattle.loop_store.proofs.found.read_head.Goals as goal

pub returns-in_err-head-clause-finds : goal.returns-in_err-head-clause-finds
returns-in_err-head-clause-finds g c =
    let h = c.args.geometry.now in
    finds-err _ (StoreFault.Damaged c.in_err-head.field-0.0) _ _ _ _
    (λ image may. head-high h image c.args.segment c.in_err-head.field-0.0
    (head-read h c.args.segment c.segment_at.result image c.read.new.buf _ c.requires.fits.0 c.segment_at.ensures
    (c.in_ok-read.ensures.gives image may).1 c.in_err-head.ensures))
    (λ image may. (c.in_ok-read.ensures.gives image may).0)
    c.in_ok-read.ensures.disk c.in_ok-read.ensures.called c.from_residual-in_err-head.ensures.1

pub returns-clause-within : goal.returns-clause-within
returns-clause-within g c = head-in c.args.geometry.now c.read.new.buf 0 c.in_ok-head.head c.in_ok-head.ensures

pub returns-clause-finds : goal.returns-clause-finds
returns-clause-finds g c =
    let h = c.args.geometry.now in
    record {
      found = λ image may. head-same h c.in_ok-head.head (header_at h image (segment_at h c.args.segment))
          (head-read h c.args.segment c.segment_at.result image c.read.new.buf _ c.requires.fits.0
          c.segment_at.ensures (c.in_ok-read.ensures.gives image may).1 c.in_ok-head.ensures);
      gives = λ image may. (c.in_ok-read.ensures.gives image may).0;
      stays = c.in_ok-read.ensures.disk;
      called = c.in_ok-read.ensures.called;
    }
