-- The buffer that has been active longest is active, so no end of its frame is refused.
use Rattle.std.proofs.Common.{◌≡◌, ℕ, ◌<◌, nat_le, true, false, not, cond, length, Some, None, option_map, ◌∙◌, ap, arith}
use Rattle.std.proofs.lemmas.Bool.Decides.{nat_tests}
use Rattle.loop_vb2.specs.declared.reason.Errno.{Errno}
use Rattle.loop_vb2.specs.declared.reason.Reason.TheVariants.{BadIndex, NotActive}
use Rattle.loop_vb2.specs.Buffers.{state_at}
use Rattle.loop_vb2.specs.Refusals.{end_refusal}
use Rattle.loop_vb2.specs.Effects.{longest_active}
use Rattle.loop_vb2.specs.Errnos.{errno}
use Rattle.loop_vb2.proofs.Lines.{least_found}
use Rattle.loop_vb2.specs.Owner.{is_active}
use Rattle.loop_vb2.specs.State.{QueueState}

none_past : (n i : ℕ) → i < n → nat_le n i ≡ false
none_past n i h = grind (arith, nat_tests)

pub may_end : (s : QueueState) (i : ℕ) → longest_active s ≡ Some i → end_refusal i s.body ≡ None
may_end s i e =
    let f : (is_active (state_at s.body.buffers i) ≡ true) × (i < length s.body.buffers) =
    least_found s.queue_number (λ k. is_active (state_at s.body.buffers k)) (length s.body.buffers) i e in
    ap (λ b. cond b (Some BadIndex) (cond (not (is_active (state_at s.body.buffers i))) (Some NotActive) None)) (none_past (length s.body.buffers) i f.1)
    ∙ ap (λ b. cond (not b) (Some NotActive) None) f.0

-- a refusal can't be
pub never_refused : (s : QueueState) (i : ℕ) (refused : Errno) → longest_active s ≡ Some i
    → option_map errno (end_refusal i s.body) ≡ Some refused → ⊥
never_refused s i refused active fails = let none : option_map errno (end_refusal i s.body) ≡ None =
    ap (λ r. option_map errno r) (may_end s i active) in absurd (cc)
