use Rattle.loop_record.specs.Recording.{ring_of}
use Rattle.loop_ring.specs.Heads.{with_one}
use Rattle.loop_ring.proofs.ClipCounts.{IsMapped}
use Rattle.loop_ring.proofs.count.raise_counts.Given as goal

-- the counts of the segments so far are changed
abbrev pub invariant-loop-segment : goal.invariant-loop-segment
invariant-loop-segment l = IsMapped (with_one (ring_of l.fn.geometry) l.fn.span) l.fn.heads l.fn.counts l.counts l.segment
