use Rattle.std.proofs.Common.{[]}
use Rattle.std.proofs.lemmas.Result.{err_from_is_err_and}
use Rattle.loop_store.proofs.SlotLooks.{held-head, held-refused, held-slot_at, answers-err}
use Rattle.loop_store.proofs.look.read_held_head.Goals as goal

pub returns-in_err-read_head : goal.returns-in_err-read_head
returns-in_err-read_head g c =
    held-refused _ _ _ _ _ _ _ c.in_err-read_head.field-0.0 c.in_err-read_head.ensures.damage
    c.in_err-read_head.ensures.disk c.in_err-read_head.ensures.called (λ r honest held has.
    let is = held-slot_at c.args.ring.now.geometry r _ c.args.segment c.args.number c.from.result held c.requires.segment c.from.ensures has in
    let said = answers-err c.args.ring.now.geometry r c.args.number _ c.in_err-read_head.field-0.0 []
    is (c.in_err-read_head.ensures.head honest) in
    let p = err_from_is_err_and c.from_residual.result c.from_residual.ensures.1 in
    rw (p.1, p.2) said)
    c.from_residual.ensures.1

pub returns : goal.returns
returns g c = record {
  frame = λ r honest held has. held-head c.args.ring.now.geometry r _ c.args.segment c.args.number c.from.result
      c.in_ok-read_head.field-0 held c.requires.segment c.from.ensures has (c.in_ok-read_head.ensures.head honest);
  refusals = tt;
  stays = c.in_ok-read_head.ensures.disk;
  called = c.in_ok-read_head.ensures.called;
}
