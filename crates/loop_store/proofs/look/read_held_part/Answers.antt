use Rattle.std.proofs.lemmas.Result.{err_from_is_err_and}
use Rattle.loop_store.proofs.SlotLooks.{held-refused, held-slot_at, part-ok, part-err}
use Rattle.loop_store.proofs.look.read_held_part.Goals as goal

pub returns-in_err-read_part : goal.returns-in_err-read_part
returns-in_err-read_part g c =
    held-refused _ _ _ _ _ _ _ c.in_err-read_part.field-0.0 c.in_err-read_part.ensures.damage
    c.in_err-read_part.ensures.disk c.in_err-read_part.ensures.called (λ r honest held has.
    let is = held-slot_at c.args.ring.now.geometry r _ c.args.segment c.args.number c.from.result held c.requires.segment c.from.ensures has in
    let said = part-err c.args.ring.now.geometry r c.args.number c.args.at _ c.in_err-read_part.field-0.0
    c.read_part.new.out is (c.in_err-read_part.ensures.part honest).0 in
    let p = err_from_is_err_and c.from_residual.result c.from_residual.ensures.1 in
    rw (p.1, p.2) said)
    c.from_residual.ensures.1

pub returns : goal.returns
returns g c = record {
  frame = λ r honest held has.
      let is = held-slot_at c.args.ring.now.geometry r _ c.args.segment c.args.number c.from.result held c.requires.segment c.from.ensures has in
      part-ok c.args.ring.now.geometry r c.args.number c.args.at _ c.read_part.new.out is (c.in_ok-read_part.ensures.part honest).1;
  refusals = tt;
  stays = c.in_ok-read_part.ensures.disk;
  called = c.in_ok-read_part.ensures.called;
}
