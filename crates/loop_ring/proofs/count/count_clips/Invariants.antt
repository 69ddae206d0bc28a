use Rattle.loop_record.specs.Recording.{ring_of}
use Rattle.loop_ring.specs.Heads.{clips_on}
use Rattle.loop_ring.proofs.ClipCounts.{IsMapped}
use Rattle.loop_ring.proofs.count.count_clips.Given as goal

-- the counts of the segments so far are set
abbrev pub invariant-loop-segment : goal.invariant-loop-segment
invariant-loop-segment l =
    IsMapped (λ head count. clips_on (ring_of l.fn.geometry) l.fn.clips head) l.fn.heads l.fn.counts l.counts l.segment
