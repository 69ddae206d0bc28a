use Rattle.loop_record.specs.Recording.{ring_of}
use Rattle.loop_ring.specs.Heads.{without_one}
use Rattle.loop_ring.proofs.ClipCounts.{IsMapped}
use Rattle.loop_ring.proofs.count.lower_counts.Given as goal

-- the counts of the segments so far are changed
abbrev pub invariant-loop-segment : goal.invariant-loop-segment
invariant-loop-segment l = IsMapped (without_one (ring_of l.fn.geometry) l.fn.span) l.fn.heads l.fn.counts l.counts l.segment
