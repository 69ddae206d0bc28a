-- Each step of the ledger keeps its rule.
use Rattle.std.proofs.Common.{◌≡◌, ◌≢◌, ℕ, ◌+◌, ◌≤◌, ◌<◌, eqb, List, [], ◌∷◌, ◌++◌, get_or, set, sym, refl, ap, ◌∙◌, subst, arith, length-set, get_or-set_same, get_or-set_other, eq-eqb, ne_eqb, MatchBool}
use Rattle.std.specs.List.{All, Contains}
use Rattle.std.proofs.lemmas.List.Elements.{All-contains, Contains-push}
use mathlib.Core.Logic.{dite}
use mathlib.Core.Option.{none, some}
use native.Mathlib.Decide.{ℕ_discrete}
use lib.ListN.{get_elem?}
use prog.Atomic.{either}
use Rattle.atomic_table.specs.Table.{State, Me, step, keeps, stepped, Allows, Splits}
use Rattle.atomic_table.proofs.Lists.{set_again}
use Rattle.loop_pages.specs.declared.rule.Holding.{Holding}
use Rattle.loop_pages.specs.Words.{holding, times, times_listed, IsLedgerKept, missed_before, tries, frees}
use Rattle.loop_pages.proofs.Times.{one, one_same, one_other, times-append, listed-append, listed-set}

-- a step on one word, whose new value is how often the views then list its page
changes : (count : ℕ) (s : State (Unit {0}) Holding) (page new id : ℕ) (me : Me (Unit {0}) Holding) (w : Holding)
    → IsLedgerKept count s → page < count → new ≡ times_listed page (set s.views id w) → new ≤ 1
    → ((other : ℕ) → other ≢ page → times_listed other (set s.views id w) ≡ times_listed other s.views)
    → IsLedgerKept count (stepped s page new id me.1 w keeps)
changes count s page new id me w kept within is most others =
    let size = kept.size in
    let here : get_or (set s.words page new) page 0 ≡ new = get_or-set_same s.words page new 0 (omega arith) in
    let F : ℕ → Type 0 = λ q. get_or (set s.words page new) q 0 ≡ times_listed q (set s.views id w) in
    let G : ℕ → Type 0 = λ q. times_listed q (set s.views id w) ≤ 1 in record {
      size = length-set s.words page new ∙ kept.size;
      counted = λ other. dite (ℕ_discrete other page)
          (λ same. subst F (sym same) (here ∙ is))
          (λ not. let ne : other ≢ page = not in rw get_or-set_other (kept.counted other ∙ sym (others other not)));
      once = λ other. dite (ℕ_discrete other page)
          (λ same. subst G (sym same) (omega arith))
          (λ not. let e = others other not in let o = kept.once other in omega arith);
    }

-- a seat's view is cut into itself and an empty one
pub split_keeps : (count id : ℕ) (v : Holding) → Splits (IsLedgerKept count) id v v (holding [] [] [])
split_keeps count id v s kept at =
    let empty : Holding = holding [] [] [] in
    let same : set s.views id v ++ empty ∷ [] ≡ s.views ++ empty ∷ [] = ap (λ (vs : List Holding). vs ++ empty ∷ []) (set_again s.views id v at) in
    let as_before : (page : ℕ) → times_listed page (set s.views id v ++ empty ∷ []) ≡ times_listed page s.views =
    λ page. ap (times_listed page) same ∙ listed-append page s.views in record {
      size = kept.size;
      counted = λ page. kept.counted page ∙ sym (as_before page);
      once = λ page. let e = as_before page in let o = kept.once page in omega arith;
    }

-- the word of a free page becomes 1, and the view gains the page
won : (count id : ℕ) (me : Me (Unit {0}) Holding) (page : ℕ) (missed tried : List ℕ) (s : State (Unit {0}) Holding)
    → page < count → IsLedgerKept count s → get_elem? s.views id ≡ some me.0
    → get_or s.words page 0 ≡ 0 → IsLedgerKept count (stepped s page 1 id me.1 (holding (me.0.pages ++ page ∷ []) missed tried) keeps)
won count id me page missed tried s within kept at free =
    let w : Holding = holding (me.0.pages ++ page ∷ []) missed tried in
    let sum = listed-set page s.views id me.0 w at in
    let more = times-append page me.0.pages page in
    let self = one_same page page refl in
    let was = kept.counted page in
    changes count s page 1 id me w kept within (omega arith) (omega arith) (λ other not.
    let sum' = listed-set other s.views id me.0 w at in
    let same = times-append other me.0.pages page in
    let none_more = one_other other page not in omega arith)

-- the word of a held page stays, and the view holds what it held
lost : (count id : ℕ) (me : Me (Unit {0}) Holding) (page : ℕ) (missed tried : List ℕ) (s : State (Unit {0}) Holding)
    → page < count → IsLedgerKept count s → get_elem? s.views id ≡ some me.0
    → IsLedgerKept count (stepped s page (get_or s.words page 0) id me.1 (holding me.0.pages missed tried) keeps)
lost count id me page missed tried s within kept at =
    let w : Holding = holding me.0.pages missed tried in
    let as_before : (other : ℕ) → times_listed other (set s.views id w) ≡ times_listed other s.views =
    λ other. let sum = listed-set other s.views id me.0 w at in omega arith in
    let was = kept.counted page in
    let here = as_before page in
    let most = kept.once page in
    changes count s page (get_or s.words page 0) id me w kept within (omega arith) (omega arith) (λ other not. as_before other)

-- a compare-exchange of 0 to 1 keeps the rule
pub try_keeps : (count slots id : ℕ) (me : Me (Unit {0}) Holding) (page : ℕ) → page < count
    → Allows (IsLedgerKept count) slots id me page (λ n. either (eqb n 0) 1 n) (tries (step slots page 0 1 none) me)
try_keeps count slots id me page within s kept _ at _ =
    let n : ℕ = get_or s.words page 0 in
    let before : List ℕ = missed_before page me.0.missed in
    let tried : List ℕ = me.0.tried ++ page ∷ [] in
    let w : Holding = holding (me.0.pages ++ page ∷ []) before tried in
    let l : Holding = holding me.0.pages (before ++ page ∷ []) tried in dite (ℕ_discrete n 0)
    (λ free. (
      w,
      keeps,
      tt,
      subst (λ b. IsLedgerKept count (stepped s page (either b 1 n) id me.1 w keeps)) (sym (eq-eqb n 0 free))
          (won count id me page before tried s within kept at free),
      subst (λ b. MatchBool b (w ≡ w) (w ≡ l)) (sym (eq-eqb n 0 free)) refl,
    ))
    (λ held. (
      l,
      keeps,
      tt,
      subst (λ b. IsLedgerKept count (stepped s page (either b 1 n) id me.1 l keeps)) (sym (ne_eqb n 0 held))
          (lost count id me page (before ++ page ∷ []) tried s within kept at),
      subst (λ b. MatchBool b (l ≡ w) (l ≡ l)) (sym (ne_eqb n 0 held)) refl,
    ))

-- a store of 0 to the page that the view lists last keeps the rule
pub free_keeps : (count slots id : ℕ) (me : Me (Unit {0}) Holding) (page : ℕ) (rest : List ℕ) → page < count
    → me.0.pages ≡ rest ++ page ∷ []
    → Allows (IsLedgerKept count) slots id me page (λ _. 0) (λ _. frees (step slots page 0 0 none) me 0)
free_keeps count slots id me page rest within last s kept _ at _ =
    let w : Holding = holding rest me.0.missed me.0.tried in
    let before : (other : ℕ) → times other me.0.pages ≡ times other rest + one other page = λ other. ap (times other) last ∙ times-append other rest page in
    let sum = listed-set page s.views id me.0 w at in
    let less = before page in
    let self = one_same page page refl in
    let most = kept.once page in (
      w,
      keeps,
      tt,
      changes count s page 0 id me w kept within (omega arith) (omega arith) (λ other not.
          let sum' = listed-set other s.views id me.0 w at in
          let same = before other in
          let none_less = one_other other page not in omega arith),
      (last, (refl, refl)),
    )

-- what holds of each page holds of the last one
pub last_within : (pages rest : List ℕ) (page count : ℕ) → pages ≡ rest ++ page ∷ [] → All (λ n. n < count) pages
    → page < count
last_within pages rest page count is each =
    All-contains (λ n. n < count) pages page each (subst (λ l. Contains l page) (sym is) (Contains-push rest page))
