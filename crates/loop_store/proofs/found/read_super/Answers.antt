use Rattle.std.proofs.Common.{◌≤◌, length, sym, ◌∙◌, arith}
use Rattle.loop_record.proofs.Parts.{geometry-good, super-parts}
use Rattle.loop_record.proofs.FoundSegments.{reading-other_size}
use Rattle.loop_store.proofs.RecoveredParts.{finds-refusal, super-read, refused-read}
use Rattle.loop_store.proofs.found.read_super.Goals as goal

pub returns-in_err-head-clause-finds : goal.returns-in_err-head-clause-finds
returns-in_err-head-clause-finds g c =
    finds-refusal _ c.in_err-head.field-0.0 _ _ _ _ (λ image may.
    let gave = c.in_ok-read.ensures.gives image may in
    let room : 512 ≤ length image = omega (arith, gave.0.size) in
    refused-read image c.read.new.buf c.in_err-head.field-0.0 room gave.1 c.in_err-head.ensures)
    (λ image may. (c.in_ok-read.ensures.gives image may).0) c.in_ok-read.ensures.disk c.in_ok-read.ensures.called
    c.from_residual-in_err-head.ensures.1

pub disk_size-requires : goal.disk_size-requires
disk_size-requires g c = geometry-good c.in_ok-head.head.geometry c.read.new.buf (super-parts c.in_ok-head.head c.read.new.buf (sym c.in_ok-head.ensures)).0

pub returns-then-size-disk_size-clause-finds : goal.returns-then-size-disk_size-clause-finds
returns-then-size-disk_size-clause-finds g c = record {
  found = λ image may.
      let gave = c.in_ok-read.ensures.gives image may in
      let room : 512 ≤ length image = omega (arith, gave.0.size) in
      reading-other_size c.in_ok-head.head.geometry image
      (sym (super-parts c.in_ok-head.head image
      (sym (super-read image c.read.new.buf _ room gave.1 c.in_ok-head.ensures))).0)
      (λ same. c.if-size-disk_size.true (c.size-size.ensures ∙ sym gave.0.size ∙ same ∙ sym c.disk_size.ensures));
  gives = λ image may. (c.in_ok-read.ensures.gives image may).0;
  stays = c.in_ok-read.ensures.disk;
  called = c.in_ok-read.ensures.called;
}

pub returns-clause-fits : goal.returns-clause-fits
returns-clause-fits g c = (
  geometry-good c.in_ok-head.head.geometry c.read.new.buf
      (super-parts c.in_ok-head.head c.read.new.buf (sym c.in_ok-head.ensures)).0,
  sym c.size-size.ensures
      ∙ c.if-size-disk_size.false ∙ c.disk_size.ensures,
)

pub returns-clause-finds : goal.returns-clause-finds
returns-clause-finds g c = record {
  found = λ image may.
      let gave = c.in_ok-read.ensures.gives image may in
      let room : 512 ≤ length image = omega (arith, gave.0.size) in
      sym (super-read image c.read.new.buf _ room gave.1 c.in_ok-head.ensures);
  gives = λ image may. (c.in_ok-read.ensures.gives image may).0;
  stays = c.in_ok-read.ensures.disk;
  called = c.in_ok-read.ensures.called;
}
