use Rattle.std.proofs.Common.{◌+◌, ◌<◌, ◌≤◌, length, List, Option, None, get_or, take, subst, ◌∙◌, ap}
use Rattle.std.specs.Prelude.{◌||◌}
use Rattle.std.specs.List.{list_any}
use Rattle.std.proofs.lemmas.List.{get_or_default, take_all}
use Rattle.loop_record.specs.declared.segment.SegmentHead.{SegmentHead}
use Rattle.loop_ring.specs.Heads.{has_number}
use Rattle.loop_store.specs.Numbers.{IsLeastFrom}
use Rattle.loop_store.proofs.Least.{any-more, least-same}
use Rattle.loop_store.proofs.look.next_held.Goals as goal

pub loop-head-preserved : goal.loop-head-preserved
loop-head-preserved g c =
    let table = c.args.index.now.table.heads in
    let slots = c.args.index.now.ring.geometry.slots in
    let i = c.loop-head.head-index in
    let same = c.heads-head-items.ensures in
    let inside : i < length table = subst (λ (t : List (Option SegmentHead)). i < length t) same c.loop-head-test.true in
    least-same (λ n. list_any (has_number slots n) (take i table) || has_number slots n (get_or table i None))
    (λ n. list_any (has_number slots n) (take (i + 1) table)) c.args.number c.lesser-least.result
    (λ n. any-more slots n i table inside)
    (c.lesser-least.ensures (λ n. list_any (has_number slots n) (take i table))
    (λ n. has_number slots n (get_or table i None)) c.args.number c.loop-head.invariant
    (subst (λ (h : Option SegmentHead). IsLeastFrom (λ n. has_number slots n h) c.args.number c.least_in.result)
    (get_or_default c.heads-head-items.result.now i _ None c.loop-head-test.true
    ∙ ap (λ (t : List (Option SegmentHead)). get_or t i None) same) c.least_in.ensures))

pub returns : goal.returns
returns g c =
    let table = c.args.index.now.table.heads in
    let slots = c.args.index.now.ring.geometry.slots in
    let end : length table ≤ c.loop-head.head-index =
    subst (λ (t : List (Option SegmentHead)). length t ≤ c.loop-head.head-index) c.heads-head-items.ensures
    c.loop-head-test.false in
    subst (λ (t : List (Option SegmentHead)). IsLeastFrom (λ n. list_any (has_number slots n) t) c.args.number
    c.loop-head.least) (take_all c.loop-head.head-index table end) c.loop-head.invariant
