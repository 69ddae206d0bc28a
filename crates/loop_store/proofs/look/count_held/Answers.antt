use Rattle.std.proofs.Common.{◌<◌, ◌≤◌, ◌∷◌, [], List, Option, None, get_or, length, ap, ◌∙◌, subst, refl, arith}
use Rattle.std.proofs.lemmas.List.{take_all}
use Rattle.loop_record.specs.declared.segment.SegmentHead.{SegmentHead}
use Rattle.loop_record.proofs.Bounds.{limits}
use Rattle.loop_store.specs.Numbers.{numbers_under}
use Rattle.loop_store.proofs.HeldCount.{count-more, few-more, fits-more}
use Rattle.loop_store.proofs.look.count_held.Goals as goal

pub loop-head-init : goal.loop-head-init
loop-head-init g c = record { count = refl; few = omega arith }

pub overflow_add-count : goal.overflow_add-count
overflow_add-count g c =
    let index = c.args.index.now in
    let few = (limits index.ring.geometry index.ring.good).segments.1 in
    let size : length c.heads-head-items.result.now ≤ 64 = omega (arith, few, c.requires.count, ap length c.heads-head-items.ensures) in
    let more : c.from-count.result < 4294967296 = omega (arith, c.from-count.ensures, c.frames_under.type_inv) in
    omega (
      arith,
      fits-more c.loop-head.head-index (length c.heads-head-items.result.now) c.loop-head.count
          c.from-count.result c.loop-head-test.true size c.loop-head.invariant.few more,
    )

pub loop-head-preserved : goal.loop-head-preserved
loop-head-preserved g c =
    let table = c.args.index.now.table.heads in
    let slots = c.args.index.now.ring.geometry.slots in
    let i = c.loop-head.head-index in
    let same = c.heads-head-items.ensures in
    let inside : i < length table = subst (λ (t : List (Option SegmentHead)). i < length t) same c.loop-head-test.true in
    let one = c.from-count.ensures ∙ c.frames_under.ensures slots
    ∙ ap (λ (t : List (Option SegmentHead)). length (numbers_under slots (get_or t i None ∷ []))) same in record {
      count = count-more slots i c.loop-head.count c.from-count.result table inside c.loop-head.invariant.count one;
      few = few-more i c.loop-head.count c.from-count.result c.loop-head.invariant.few (omega (arith, c.from-count.ensures, c.frames_under.type_inv));
    }

pub returns : goal.returns
returns g c =
    let table = c.args.index.now.table.heads in
    let slots = c.args.index.now.ring.geometry.slots in
    let end : length table ≤ c.loop-head.head-index =
    subst (λ (t : List (Option SegmentHead)). length t ≤ c.loop-head.head-index) c.heads-head-items.ensures
    c.loop-head-test.false in
    c.loop-head.invariant.count ∙ ap (λ (t : List (Option SegmentHead)). length (numbers_under slots t)) (take_all c.loop-head.head-index table end)
