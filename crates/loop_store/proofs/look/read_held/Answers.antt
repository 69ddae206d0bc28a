use Rattle.std.proofs.lemmas.Result.{err_from_is_err_and}
use Rattle.loop_store.proofs.SlotLooks.{held-refused, held-slot_at, answers-ok, answers-err}
use Rattle.loop_store.proofs.look.read_held.Goals as goal

pub returns-in_err-read_slot : goal.returns-in_err-read_slot
returns-in_err-read_slot g c =
    held-refused _ _ _ _ _ _ _ c.in_err-read_slot.field-0.0 c.in_err-read_slot.ensures.damage
    c.in_err-read_slot.ensures.disk c.in_err-read_slot.ensures.called (λ r honest held has.
    let is = held-slot_at c.args.ring.now.geometry r _ c.args.segment c.args.number c.from.result held c.requires.segment c.from.ensures has in
    let said = answers-err c.args.ring.now.geometry r c.args.number _ c.in_err-read_slot.field-0.0 c.read_slot.new.out
    is (c.in_err-read_slot.ensures.slot honest).0 in
    let p = err_from_is_err_and c.from_residual.result c.from_residual.ensures.1 in
    rw (p.1, p.2) said)
    c.from_residual.ensures.1

pub returns : goal.returns
returns g c = record {
  frame = λ r honest held has.
      let is = held-slot_at c.args.ring.now.geometry r _ c.args.segment c.args.number c.from.result held c.requires.segment c.from.ensures has in
      answers-ok c.args.ring.now.geometry r c.args.number _ c.in_ok-read_slot.field-0 c.read_slot.new.out is
      (c.in_ok-read_slot.ensures.slot honest).0 (c.in_ok-read_slot.ensures.slot honest).1;
  refusals = tt;
  stays = c.in_ok-read_slot.ensures.disk;
  called = c.in_ok-read_slot.ensures.called;
}
