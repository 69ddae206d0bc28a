use Rattle.std.proofs.Common.{◌≡◌, ℕ, ◌<◌, false, get_or}
use Rattle.loop_record.specs.declared.image.Found.{Found}
use Rattle.loop_ring.proofs.Oldest.{is_free_at}
use Rattle.loop_ring.proofs.victim.oldest_free.Given as goal

-- none of the entries so far may go
abbrev pub invariant-loop-entry : goal.invariant-loop-entry
invariant-loop-entry l = (k : ℕ) (d : Found) → k < l.entry-index → is_free_at l.fn.floor l.fn.heads l.fn.clips (get_or l.fn.entries k d).segment ≡ false
