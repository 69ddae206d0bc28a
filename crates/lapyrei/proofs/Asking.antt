-- Answers that ask for bytes, one after the other.
use Rattle.std.proofs.Common.{◌≡◌, ◌⊎◌, inl, inr, ⊎_elim, ℕ, zero, suc, ◌+◌, ◌*◌, ◌<◌, ◌≤◌, cond, eqb, List, [], ◌∷◌, get_or, length, arith, subst, sym}
use Rattle.std.proofs.lemmas.Bool.Decides.{nat_tests}
use Rattle.lapyrei.specs.declared.answer.Answer.{Answer}
use Rattle.lapyrei.specs.Laws.{AskInTurn}
use Rattle.loop_overlay.specs.Pages.{IsThere}

-- how many of the first pages aren't there
abbrev absent : List ℕ → ℕ → ℕ
absent present zero = 0
absent present (suc n) = cond (eqb (get_or present n 0) 1) 0 1 + absent present n

absent_all : (present : List ℕ) (n : ℕ) → absent present n ≤ n
absent_all present zero = omega arith
absent_all present (suc n) =
    let rest = absent_all present n in
    grind (arith, nat_tests)

-- more pages are there
absent_less : (present next : List ℕ) (n : ℕ) → ((page : ℕ) → IsThere present page → IsThere next page)
    → absent next n ≤ absent present n
absent_less present next zero more = omega arith
absent_less present next (suc n) more =
    let here = more n in
    let rest = absent_less present next n more in
    grind (arith, nat_tests)

-- and among them one that wasn't
absent_one_less : (present next : List ℕ) (n page : ℕ) → ((page : ℕ) → IsThere present page → IsThere next page)
    → page < n → (IsThere present page → ⊥) → IsThere next page → absent next n + 1 ≤ absent present n
absent_one_less present next zero page more low gone there = absurd (omega (arith, low))
absent_one_less present next (suc n) page more low gone there =
    let split : (page ≡ n) ⊎ (page < n) = search (arith, low) in
    ⊎_elim
    (λ (is : page ≡ n).
    let rest : absent next n ≤ absent present n = absent_less present next n more in
    let now : get_or next n 0 ≡ 1 = subst (λ (p : ℕ). get_or next p 0 ≡ 1) is there in
    let before : get_or present n 0 ≡ 1 → ⊥ = λ h. gone (subst (λ (p : ℕ). get_or present p 0 ≡ 1) (sym is) h) in
    grind (arith, nat_tests))
    (λ (lower : page < n).
    let here = more n in
    let rest : absent next n + 1 ≤ absent present n = absent_one_less present next n page more lower gone there in
    grind (arith, nat_tests))
    split

-- each answer asks for such a page
asked_absent : (pages : ℕ) (bytes present : List ℕ) (answers : List Answer) → length bytes ≤ pages * 4096
    → AskInTurn bytes present answers → length answers ≤ absent present pages
asked_absent pages bytes present [] fits ask = omega arith
asked_absent pages bytes present (answer ∷ answers) fits ask =
    let lacks = ask.0.lacks in
    let next = ask.1.0 in
    let there = ask.1.1.0 in
    let one = absent_one_less present next pages lacks.lacks.page (λ page was. there page (inl was))
    (omega (arith, lacks.within, lacks.lacks.meets.1.0, fits)) lacks.lacks.gone
    (there lacks.lacks.page (inr lacks.lacks.meets)) in
    let rest = asked_absent pages bytes next answers fits ask.1.1.1 in
    omega (arith, one, rest)

pub asked_few : (pages : ℕ) (bytes present : List ℕ) (answers : List Answer) → length bytes ≤ pages * 4096
    → AskInTurn bytes present answers → length answers ≤ pages
asked_few pages bytes present answers fits ask =
    omega (arith, asked_absent pages bytes present answers fits ask, absent_all present pages)
