use Rattle.std.proofs.Common.{List, ℕ, ◌+◌, arith, sym, subst, get_or, None}
use Rattle.loop_record.specs.Recording.{ring_of}
use Rattle.loop_ring.specs.Heads.{with_one}
use Rattle.loop_ring.proofs.ClipCounts.{IsMapped, more-met, more-same, mapped-all, mapped-none, mapped-same, mapped-set}
use Rattle.loop_ring.proofs.count.raise_counts.Goals as goal
use Rattle.loop_ring.proofs.count.raise_counts.Goals.{then-meets_head, else-meets_head}

pub loop-segment-init : goal.loop-segment-init
loop-segment-init c = mapped-none (with_one (ring_of c.args.geometry.now) c.args.span) c.args.heads.now c.args.counts.now

pub loop-segment-preserved : goal.loop-segment-preserved
loop-segment-preserved c =
    let ring = ring_of c.args.geometry.now in
    let heads = c.args.heads.now in
    let old = c.args.counts.now in
    let mid = c.loop-segment.counts in
    let i = c.loop-segment.segment in
    elim c.if-meets_head.branch [
      | then-meets_head w ↦
          subst (λ (l : List ℕ). IsMapped (with_one ring c.args.span) heads old l (i + 1)) (sym w.counts-is)
          (mapped-set (with_one ring c.args.span) heads old mid i
          (get_or c.loop-segment.counts c.loop-segment.segment 0 + 1)
          (omega (arith, c.loop-segment-test.true, c.loop-segment.auto.counts, c.requires.counted))
          c.loop-segment.invariant (more-met ring c.args.span (get_or heads i None)
          (get_or mid i 0) c.meets_head.result c.meets_head.ensures w.if-meets_head.true))
      | else-meets_head w ↦
          subst (λ (l : List ℕ). IsMapped (with_one ring c.args.span) heads old l (i + 1)) (sym w.counts-is)
          (mapped-same (with_one ring c.args.span) heads old mid i c.loop-segment.invariant
          (more-same ring c.args.span (get_or heads i None) (get_or mid i 0) c.meets_head.result
          c.meets_head.ensures w.if-meets_head.false))
    ]

pub returns : goal.returns
returns c = mapped-all (with_one (ring_of c.args.geometry.now) c.args.span) c.args.heads.now c.args.counts.now
    c.loop-segment.counts c.loop-segment.segment c.loop-segment.invariant c.loop-segment-test.false c.requires.counted
    c.loop-segment.auto.counts

pub overflow_add-counts : goal.overflow_add-counts
overflow_add-counts c =
    let i = c.loop-segment.segment in
    let few = c.requires.few i 0 (omega (arith, c.loop-segment-test.true, c.requires.counted)) in
    let same = c.loop-segment.invariant.left i (omega arith) in
    omega (arith, few, same)
