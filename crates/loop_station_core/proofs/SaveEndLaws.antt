-- A save that is tried again is told as such once, and only tried once it is due.
use Rattle.std.proofs.Common.{◌≡◌, ◌≤◌, ℕ, true, false, List, [], ◌∷◌, Some, slice_get, arith, Bool, refl, ◌<◌, ◌+◌, length, remove, zero, suc}
use Rattle.std.specs.List.{position, position_or_len}
use Rattle.std.proofs.lemmas.Grind.{common_steps}
use Rattle.loop_station_core.proofs.ReleaseLaws.{first-at}
use Rattle.loop_station_core.specs.Retries.{retry_is_due, taken, DueRetriesAreTaken}
use Rattle.loop_station_core.specs.declared.retries.Retry.{Retry}
use Rattle.loop_station_core.specs.SaveEnds.{waits_in, EndsAreTold, RetriesAreTold}
use Rattle.loop_station_core.specs.declared.save_end.SaveEnd.{SaveEnd}
use Rattle.loop_station_core.specs.declared.save_end.SaveEnd.TheVariants.{Whole, Already, MayPass, Final}
use Rattle.loop_station_core.proofs.ItselfLaws.{found}

told-no-more : (ends : List (SaveEnd × ℕ)) → waits_in true ends ≡ 0
told-no-more [] = grind (arith, common_steps)
told-no-more ((Whole, now) ∷ es) = grind (arith, common_steps)
told-no-more ((Already, now) ∷ es) = grind (arith, common_steps)
told-no-more ((Final, now) ∷ es) = grind (arith, common_steps)
told-no-more ((MayPass, now) ∷ es) = let rest = told-no-more es in grind (arith, common_steps)

pub told-once : (ends : List (SaveEnd × ℕ)) → waits_in false ends ≤ 1
told-once [] = grind (arith, common_steps)
told-once ((Whole, now) ∷ es) = grind (arith, common_steps)
told-once ((Already, now) ∷ es) = grind (arith, common_steps)
told-once ((Final, now) ∷ es) = grind (arith, common_steps)
told-once ((MayPass, now) ∷ es) = let rest = told-no-more es in grind (arith, common_steps)

pub tried-when-due : (retries : List Retry) (now i : ℕ) (r : Retry) → (taken (retry_is_due now) retries).1 ≡ Some i
    → slice_get retries i ≡ Some r → r.at ≤ now
tried-when-due retries now i r e g =
    let first : position (retry_is_due now) retries ≡ Some i = grind (arith, common_steps) in
    let due = first-at (retry_is_due now) retries i r first g in
    grind (arith, common_steps)

pub told-first : RetriesAreTold
told-first now ends = let rest = told-no-more ends in grind (arith, common_steps)

pub ends-told : EndsAreTold
ends-told Whole automatic told now =
    ((λ e. refl), (λ e. refl), (λ e. absurd (cc)), (λ e. absurd (cc)), (λ e. absurd (cc)), (λ n. absurd (n refl)))
ends-told Already automatic told now =
    ((λ e. absurd (cc)), (λ e. absurd (cc)), (λ e. absurd (cc)), (λ e. absurd (cc)), (λ e. absurd (cc)), (λ n. absurd (n refl)))
ends-told Final automatic told now =
    ((λ e. absurd (cc)), (λ e. absurd (cc)), (λ e. (refl, refl)), (λ e a. refl), (λ e. absurd (cc)), (λ n. absurd (n refl)))
ends-told MayPass false told now =
    ((λ e. absurd (cc)), (λ e. absurd (cc)), (λ e. (refl, refl)), (λ e a. refl), (λ e a. absurd (cc)), (λ n. absurd (n refl)))
ends-told MayPass true false now =
    ((λ e. absurd (cc)), (λ e. absurd (cc)), (λ e. absurd (cc)), (λ e a. absurd (cc)), (λ e a. refl), (λ n. (refl, refl)))
ends-told MayPass true true now =
    ((λ e. absurd (cc)), (λ e. absurd (cc)), (λ e. absurd (cc)), (λ e a. absurd (cc)), (λ e a. refl), (λ n. (refl, refl)))

removed : {X : Type 0} (xs : List X) (i : ℕ) → i < length xs → length (remove xs i) + 1 ≡ length xs
removed [] i h = grind (arith, common_steps)
removed (x ∷ xs) zero h = grind (arith, common_steps)
removed (x ∷ xs) (suc i) h = let rest = removed xs i (omega arith) in grind (arith, common_steps)

pub due-taken : DueRetriesAreTaken
due-taken retries now i r at due =
    let p : Retry → Bool = retry_is_due now in
    let passes : p r ≡ true = grind (arith, common_steps) in
    let there = found p retries i r at passes in
    let first : position p retries ≡ Some (position_or_len p retries) = grind (arith, common_steps) in
    let less : position_or_len p retries < length retries = grind (arith, common_steps) in
    let fewer = removed retries (position_or_len p retries) less in
    ((λ e. grind (arith, common_steps)), grind (arith, common_steps))
