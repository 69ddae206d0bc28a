use Rattle.std.proofs.Common.{arith, ◌∙◌}
use Rattle.loop_record.specs.Recording.{ring_of}
use Rattle.loop_ring.specs.Heads.{clips_on}
use Rattle.loop_ring.proofs.ClipCounts.{mapped-all, mapped-heads, mapped-none, mapped-set}
use Rattle.loop_ring.proofs.count.count_clips.Goals as goal

pub loop-segment-init : goal.loop-segment-init
loop-segment-init c =
    mapped-none (λ head count. clips_on (ring_of c.args.geometry.now) c.args.clips.now head) c.args.heads.now c.args.counts.now

pub loop-segment-preserved : goal.loop-segment-preserved
loop-segment-preserved c =
    mapped-set (λ head count. clips_on (ring_of c.args.geometry.now) c.args.clips.now head) c.args.heads.now
    c.args.counts.now c.loop-segment.counts c.loop-segment.segment c.clips_on.result
    (omega (arith, c.loop-segment-test.true, c.loop-segment.auto.counts, c.requires.counted)) c.loop-segment.invariant c.clips_on.ensures

pub returns : goal.returns
returns c =
    mapped-all (λ head count. clips_on (ring_of c.args.geometry.now) c.args.clips.now head) c.args.heads.now
    c.args.counts.now c.loop-segment.counts c.loop-segment.segment c.loop-segment.invariant c.loop-segment-test.false
    c.requires.counted c.loop-segment.auto.counts
    ∙ mapped-heads (clips_on (ring_of c.args.geometry.now) c.args.clips.now) c.args.heads.now c.args.counts.now c.requires.counted
