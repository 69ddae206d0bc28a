use Rattle.loop_record.specs.Times.{is_in}
use Rattle.loop_store.specs.Times.{Rise, stamp_under}
use Rattle.loop_store.proofs.TimeRuns.{RunsSoFar}
use Rattle.loop_store.proofs.seek.runs_of.Given as goal

-- the runs so far
abbrev pub invariant-loop-number : goal.invariant-loop-number
invariant-loop-number g l =
    Rise l.numbers → RunsSoFar
    (λ n. is_in l.fn.times
    (stamp_under l.fn.index.ring.geometry.slots l.fn.index.table.heads l.fn.index.stamps.items n).time)
    l.numbers l.number-index l.runs.items
