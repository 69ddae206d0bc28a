use Rattle.std.proofs.Common.{◌≡◌, ℕ, IfOk, List, ap, arith, length, subst, ◌∙◌}
use Rattle.loop_record.specs.declared.image.Found.{Found}
use Rattle.loop_ring.proofs.SegmentOrder.{order-few}
use Rattle.loop_ring.specs.Heads.{in_order}
use Rattle.loop_store.specs.Numbers.{numbers_in}
use Rattle.loop_store.proofs.Numbers.{held-numbers}
use Rattle.loop_store.proofs.SegmentOrder.{order-read, order-within}
use Rattle.loop_store.proofs.look.held_numbers.Goals as goal

pub numbers_of-requires-clause-count : goal.numbers_of-requires-clause-count
numbers_of-requires-clause-count g c =
    omega (
      arith,
      ap (λ (fs : List Found). length fs) c.in_order.ensures,
      order-few 0 c.args.index.now.table.heads,
      c.requires.count,
    )

pub numbers_of-requires-clause-within : goal.numbers_of-requires-clause-within
numbers_of-requires-clause-within g c =
    order-within c.args.index.now.ring.geometry c.args.index.now.table.heads c.in_order.result.now c.requires.count
    c.requires.within c.in_order.ensures

pub returns : goal.returns
returns g c = λ r image known.
    let h = c.args.index.now.ring.geometry in
    let heads = c.args.index.now.table.heads in
    subst (λ (ns : List ℕ). IfOk c.numbers_of.result (λ numbers. numbers.items ≡ ns))
    (ap (λ (fs : List Found). numbers_in h fs) c.in_order.ensures
    ∙ held-numbers h r image (in_order 0 heads) known.held (order-read h image heads known.heads_are)) c.numbers_of.ensures
