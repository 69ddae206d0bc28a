use Rattle.std.proofs.Common.{List, Option, length, true, false, ap, ◌∙◌}
use Rattle.std.specs.List.{list_any}
use Rattle.loop_record.specs.declared.clip.Span.{Span}
use Rattle.loop_record.specs.Plain.{lacks_number}
use Rattle.loop_record.specs.declared.damage.Damage.{Damage}
use Rattle.loop_record.specs.declared.damage.LayoutFault.{LayoutFault}
use Rattle.loop_store.specs.declared.fault.StoreFault.{StoreFault}
use Rattle.loop_store.proofs.RecoveredParts.{finds-err, table-bad, table-length, table-read}
use Rattle.loop_store.proofs.found.read_table.Goals as goal

pub returns-in_err-clips-clause-finds : goal.returns-in_err-clips-clause-finds
returns-in_err-clips-clause-finds g c =
    finds-err _ (StoreFault.Damaged c.in_err-clips.field-0.0) _ _ _ _
    (λ image may is. (
      ap (λ (d : Damage). LayoutFault.Damaged d) c.in_err-clips.ensures.clips.0,
      table-bad c.args.geometry.now c.args.version image c.read.new.buf c.args.open.now true c.requires.fits.0
          c.requires.within is (c.in_ok-read.ensures.gives image may).1 c.in_err-clips.ensures.clips.1,
    ))
    (λ image may. (c.in_ok-read.ensures.gives image may).0)
    c.in_ok-read.ensures.disk c.in_ok-read.ensures.called c.from_residual-in_err-clips.ensures.1

pub returns-clause-finds : goal.returns-clause-finds
returns-clause-finds g c = record {
  found = λ image may is. (
    table-read c.args.version image c.read.new.buf c.in_ok-clips.clips is (c.in_ok-read.ensures.gives image may).1
        c.in_ok-clips.ensures.clips.0,
    table-bad c.args.geometry.now c.args.version image c.read.new.buf c.args.open.now false c.requires.fits.0
        c.requires.within is (c.in_ok-read.ensures.gives image may).1 c.in_ok-clips.ensures.clips.1,
  );
  gives = λ image may. (c.in_ok-read.ensures.gives image may).0;
  stays = c.in_ok-read.ensures.disk;
  called = c.in_ok-read.ensures.called;
}

pub returns-clause-held : goal.returns-clause-held
returns-clause-held g c = (
  ap (λ (cs : List (Option Span)). length cs) c.in_ok-clips.ensures.clips.0 ∙ table-length c.args.version c.read.new.buf,
  ap (λ (cs : List (Option Span)). list_any (lacks_number c.args.geometry.now c.args.open.now) cs)
      c.in_ok-clips.ensures.clips.0 ∙ c.in_ok-clips.ensures.clips.1,
)
