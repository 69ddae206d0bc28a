-- Lists of events.
use Rattle.std.proofs.Common.{◌≡◌, ℕ, ◌+◌, Bool, true, false, ◌&&◌, length, List, [], ◌∷◌, ◌++◌, refl, sym, ◌∙◌, ap, subst, arith, length-append}
use Rattle.loop_plane.specs.Plane.{Plane}
use Rattle.loop_plane.specs.Fds.{Fds}
use Rattle.loop_record.specs.Turns.{Plays}
use Rattle.loop_record.proofs.TurnRuns.{plays-none, plays-once, plays-joined}
use Rattle.loop_ioctl.specs.declared.events.QueueEvent.{QueueEvent}
use Rattle.loop_ioctl.specs.declared.events.QueueReply.{QueueReply}
use Rattle.loop_ioctl.specs.Calls.{StandsIoctl}
use Rattle.loop_ioctl.specs.Events.{turns, ioctl_machine, Reacts, Runs, RunsJoin}
use Rattle.loop_vb2.specs.State.{Lined}

both_longer : (a b c d : ℕ) → a ≡ b → c ≡ d → a + c ≡ b + d
both_longer a b c d e f = omega arith

pub first_true : (a b : Bool) → (a && b) ≡ true → a ≡ true
first_true true b e = refl
first_true false b e = absurd (cc)

pub second_true : (a b : Bool) → (a && b) ≡ true → b ≡ true
second_true true b e = e
second_true false b e = absurd (cc)

pub nothing_left : {X : Type 0} (l : List X) → length l ≡ 0 → l ≡ []
nothing_left [] h = refl
nothing_left (x ∷ xs) h = absurd (omega arith)

pub turns-behind : {P A : Type 0} (es fs : List (QueueEvent P A)) (rs ss : List (QueueReply P A))
    → length rs ≡ length es → turns (es ++ fs) (rs ++ ss) ≡ turns es rs ++ turns fs ss
turns-behind [] fs [] ss e = refl
turns-behind [] fs (r ∷ rs) ss e = absurd (omega arith)
turns-behind (x ∷ es) fs [] ss e = absurd (omega arith)
turns-behind (x ∷ es) fs (r ∷ rs) ss e = ap (λ l. (x, r) ∷ l) (turns-behind es fs rs ss (omega arith))

pub runs_join : {P : Type 0} (A : Type 0) (m : P → Plane) → RunsJoin A m
runs_join A m es fs rs ss q q' q'' t t' t'' first second = record {
  count = length-append rs ss ∙ (both_longer (length rs) (length es) (length ss) (length fs) first.count second.count ∙ sym (length-append es fs));
  told = subst (Plays (ioctl_machine m) (StandsIoctl m q t) (StandsIoctl m q'' t'')) (sym (turns-behind es fs rs ss first.count))
      (plays-joined (ioctl_machine m) (StandsIoctl m q t) (StandsIoctl m q' t') (StandsIoctl m q'' t'') (turns es rs) (turns fs ss) first.told second.told);
}

module _ {P A : Type 0} where
  pub runs_none : (m : P → Plane) (q : Lined P) (t : Fds P) → Runs {P = P} {A = A} m [] [] q t q t
  runs_none m q t = record { count = refl; told = plays-none (ioctl_machine {A = A} m) (StandsIoctl m q t) }

  runs_one : (m : P → Plane) (e : QueueEvent P A) (r : QueueReply P A) (q q' : Lined P) (t t' : Fds P)
      → Reacts m e r q t q' t' → Runs m (e ∷ []) (r ∷ []) q t q' t'
  runs_one m e r q q' t t' reacts = record { count = refl; told = plays-once (ioctl_machine m) (StandsIoctl m q t) (StandsIoctl m q' t') (e, r) reacts }

  -- one event more
  pub runs_more : (m : P → Plane) (es : List (QueueEvent P A)) (e : QueueEvent P A) (rs more : List (QueueReply P A))
      (r : QueueReply P A) (q q' q'' : Lined P) (t t' t'' : Fds P) → more ≡ rs ++ r ∷ [] → Runs m es rs q t q' t'
      → Reacts m e r q' t' q'' t'' → Runs m (es ++ e ∷ []) more q t q'' t''
  runs_more m es e rs more r q q' q'' t t' t'' pushed first reacts =
      subst (λ l. Runs m (es ++ e ∷ []) l q t q'' t'') (sym pushed)
      (runs_join A m es (e ∷ []) rs (r ∷ []) q q' q'' t t' t'' first (runs_one m e r q' q'' t' t'' reacts))
