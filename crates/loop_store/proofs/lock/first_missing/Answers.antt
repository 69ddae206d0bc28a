use Rattle.std.proofs.Common.{◌≡◌, ◌⊎◌, inl, inr, ◌<◌, ◌≤◌, ℕ, true, arith}
use Rattle.std.proofs.lemmas.Bool.{cases_lt}
use Rattle.loop_record.specs.Recording.{Recording, holds}
use Rattle.loop_store.specs.Lock.{AreHeld}
use Rattle.loop_store.proofs.UnheldNumbers.{missing-is, missing-none}
use Rattle.loop_store.proofs.lock.first_missing.Goals as goal

-- two runs, one after the other
runs-join : (r : Recording) (from next end : ℕ) → AreHeld r from next → AreHeld r next end → AreHeld r from end
runs-join r from next end before behind m low high = go (cases_lt m next)
  where
    go : (m < next) ⊎ (next ≤ m) → holds r m ≡ true
    go (inl l) = before m low l
    go (inr l) = behind m l high

pub loop-next-init : goal.loop-next-init
loop-next-init g c = record { low = omega arith; held = λ r image known m low high. absurd (omega (arith, low, high)) }

pub returns-then-end-next-clause-within : goal.returns-then-end-next-clause-within
returns-then-end-next-clause-within g c = (c.loop-next.invariant.low, c.loop-next-test.true)

pub returns-then-end-next-clause-missing : goal.returns-then-end-next-clause-missing
returns-then-end-next-clause-missing g c = λ r image known.
    missing-is r c.args.span c.loop-next.next c.loop-next.invariant.low c.loop-next-test.true
    (c.run_end-end.ensures.missing r image known c.if-end-next.true) (c.loop-next.invariant.held r image known)

pub loop-next-preserved : goal.loop-next-preserved
loop-next-preserved g c = record {
  low = omega (arith, c.loop-next.invariant.low, c.run_end-end.ensures.from);
  held = λ r image known. runs-join r c.args.span.from c.loop-next.next c.run_end-end.result
      (c.loop-next.invariant.held r image known) (c.run_end-end.ensures.held r image known);
}

pub returns-clause-missing : goal.returns-clause-missing
returns-clause-missing g c = λ r image known. missing-none r c.args.span c.requires.some (λ n low high.
    c.loop-next.invariant.held r image known n low (omega (arith, high, c.loop-next-test.false)))
