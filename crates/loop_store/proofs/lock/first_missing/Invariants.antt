use Rattle.std.proofs.Common.{◌+◌, ◌-◌, ◌≤◌, ℕ, List}
use Rattle.loop_record.specs.Recording.{Recording}
use Rattle.loop_store.specs.Lock.{AreHeld}
use Rattle.loop_store.specs.Index.{IsIndexOf}
use Rattle.loop_store.proofs.lock.first_missing.Given as goal

-- the numbers of the span before the next one are held
abbrev pub invariant-loop-next : goal.invariant-loop-next
invariant-loop-next g l = record {
  low : l.fn.span.from ≤ l.next;
  held : (r : Recording) (image : List ℕ) → IsIndexOf l.fn.index r image → AreHeld r l.fn.span.from l.next;
}

abbrev pub decreases-loop-next : goal.decreases-loop-next
decreases-loop-next g l = l.span.to + 1 - l.next
