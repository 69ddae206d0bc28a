-- A configuration that is read anew is followed, or changes nothing.
use Rattle.std.proofs.Common.{◌≡◌, ◌≢◌, ap, ℕ, ◌==◌, Bool, true, false, Option, Some, None, is_some, arith, refl}
use Rattle.std.proofs.lemmas.Bool.{eqb-true, eq-eqb}
use Rattle.std.proofs.lemmas.Grind.{common_steps}
use Rattle.loop_station_core.specs.Reloads.{ends_one, fate_of, runs_after, starts_one}

pub refused-change-nothing : (runs said : Option ℕ) → let fate = fate_of true runs said in
    (runs_after fate runs said ≡ runs) × (ends_one fate ≡ false) × (starts_one fate ≡ false)
refused-change-nothing None None = (refl, refl, refl)
refused-change-nothing None (Some said) = (refl, refl, refl)
refused-change-nothing (Some runs) None = (refl, refl, refl)
refused-change-nothing (Some runs) (Some said) = (refl, refl, refl)

both : (runs said : ℕ) (b : Bool) → (runs == said) ≡ b → let fate = fate_of false (Some runs) (Some said) in
    (runs_after fate (Some runs) (Some said) ≡ Some said)
    × (Some runs ≡ Some said → (ends_one fate ≡ false) × (starts_one fate ≡ false))
    × (Some runs ≢ Some said → (ends_one fate ≡ true) × (starts_one fate ≡ true))
both runs said true e =
    let same : Some runs ≡ Some said = ap (λ n. Some n) (eqb-true runs said e) in
    let after : runs_after (fate_of false (Some runs) (Some said)) (Some runs) (Some said) ≡ Some said =
    grind (arith, common_steps) in
    let ends : ends_one (fate_of false (Some runs) (Some said)) ≡ false = grind (arith, common_steps) in
    let starts : starts_one (fate_of false (Some runs) (Some said)) ≡ false = grind (arith, common_steps) in
    (after, (λ h. (ends, starts)), (λ h. absurd (h same)))
both runs said false e =
    let after : runs_after (fate_of false (Some runs) (Some said)) (Some runs) (Some said) ≡ Some said =
    grind (arith, common_steps) in
    let ends : ends_one (fate_of false (Some runs) (Some said)) ≡ true = grind (arith, common_steps) in
    let starts : starts_one (fate_of false (Some runs) (Some said)) ≡ true = grind (arith, common_steps) in
    (after, (λ h. let n : runs ≡ said = grind (arith, common_steps) in let t = eq-eqb runs said n in absurd (cc)), (λ h. (ends, starts)))

pub reloads-are-followed : (runs said : Option ℕ) → let fate = fate_of false runs said in
    (runs_after fate runs said ≡ said)
    × (runs ≡ said → (ends_one fate ≡ false) × (starts_one fate ≡ false))
    × (runs ≢ said → (ends_one fate ≡ is_some runs) × (starts_one fate ≡ is_some said))
reloads-are-followed None None = (refl, (λ h. (refl, refl)), (λ h. (refl, refl)))
reloads-are-followed None (Some said) = (refl, (λ h. absurd (cc)), (λ h. (refl, refl)))
reloads-are-followed (Some runs) None = (refl, (λ h. absurd (cc)), (λ h. (refl, refl)))
reloads-are-followed (Some runs) (Some said) = both runs said (runs == said) refl
