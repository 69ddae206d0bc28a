-- The rule counts; this is what its counts say of who holds a page.
use Rattle.std.proofs.Common.{◌≡◌, ◌≢◌, inl, inr, ℕ, zero, suc, ◌+◌, ◌≤◌, ◌<◌, List, [], ◌∷◌, sym, refl, ap, ◌∙◌, arith, Contains}
use mathlib.Core.Logic.{dite}
use mathlib.Core.Option.{some, some-injective, some-ne-none}
use native.Mathlib.Decide.{ℕ_discrete}
use lib.ListN.{get_elem?}
use Rattle.atomic_table.specs.Table.{State}
use Rattle.loop_pages.specs.declared.rule.Holding.{Holding}
use Rattle.loop_pages.specs.Words.{times, times_listed, IsLedgerKept}
use Rattle.loop_pages.specs.Holders.{ListsPage, OneHolder}
use Rattle.loop_pages.proofs.Times.{one_same, one_other}

-- a page that a list contains is in it at least once
counts : (pages : List ℕ) (page : ℕ) → Contains pages page → 0 < times page pages
counts [] page (k, within, is) = absurd (omega arith)
counts (p ∷ ps) page (zero, within, is) = let here = one_same page p (sym is) in omega arith
counts (p ∷ ps) page (suc k, within, is) = let r = counts ps page (k, omega arith, is) in omega arith

-- and the other way round
finds : (pages : List ℕ) (page : ℕ) → 0 < times page pages → Contains pages page
finds [] page some_time = absurd (omega arith)
finds (p ∷ ps) page some_time = dite (ℕ_discrete page p)
    (λ here. (zero, omega arith, sym here))
    (λ not. let none_here = one_other page p not in let r = finds ps page (omega arith) in (suc r.0, omega arith, r.2))

-- a view that lists the page adds to the count
listed_by : (views : List Holding) (seat : ℕ) (v : Holding) (page : ℕ) → get_elem? views seat ≡ some v
    → times page v.pages ≤ times_listed page views
listed_by [] seat v page at = absurd (some-ne-none v (sym at))
listed_by (x ∷ xs) zero v page at = let is : times page x.pages ≡ times page v.pages =
    ap (λ (u : Holding). times page u.pages) (some-injective x v at) in omega arith
listed_by (x ∷ xs) (suc seat) v page at = let r = listed_by xs seat v page at in omega arith

-- two views that list it add both
both_listed : (views : List Holding) (seat other : ℕ) (v w : Holding) (page : ℕ) → get_elem? views seat ≡ some v
    → get_elem? views other ≡ some w → other ≢ seat
    → times page v.pages + times page w.pages ≤ times_listed page views
both_listed [] seat other v w page at there apart = absurd (some-ne-none v (sym at))
both_listed (x ∷ xs) zero zero v w page at there apart = absurd (apart refl)
both_listed (x ∷ xs) zero (suc other) v w page at there apart =
    let is : times page x.pages ≡ times page v.pages = ap (λ (u : Holding). times page u.pages)
    (some-injective x v at) in let r = listed_by xs other w page there in omega arith
both_listed (x ∷ xs) (suc seat) zero v w page at there apart =
    let is : times page x.pages ≡ times page w.pages = ap (λ (u : Holding). times page u.pages)
    (some-injective x w there) in let r = listed_by xs seat v page at in omega arith
both_listed (x ∷ xs) (suc seat) (suc other) v w page at there apart = let r = both_listed xs seat other v w page at there (λ e. apart (ap suc e)) in omega arith

-- where the count is not 0, some view lists the page
holder : (views : List Holding) (page : ℕ) → 0 < times_listed page views → (seat : ℕ) × ListsPage views seat page
holder [] page some_time = absurd (omega arith)
holder (x ∷ xs) page some_time = dite (ℕ_discrete (times page x.pages) 0)
    (λ not. let r = holder xs page (omega arith) in (suc r.0, r.1))
    (λ here. (zero, (x, refl, finds x.pages page (omega arith))))

only : (views : List Holding) (page seat other : ℕ) → times_listed page views ≤ 1 → ListsPage views seat page
    → ListsPage views other page → Dec (other ≡ seat) → other ≡ seat
only views page seat other once here there (yes same) = same
only views page seat other once (v, at, has) (w, at', has') (no apart) =
    let sum = both_listed views seat other v w page at at' apart in let a = counts v.pages page has in let b = counts w.pages page has' in absurd (omega arith)

pub one_holder : (count : ℕ) (s : State (Unit {0}) Holding) → IsLedgerKept count s → OneHolder s
one_holder count s kept page = let is = kept.counted page in let once = kept.once page in dite (ℕ_discrete (times_listed page s.views) 0)
    (λ not. inr (
      is ∙ not,
      λ seat lists. let a = listed_by s.views seat lists.0 page lists.1 in let b =
          counts lists.0.pages page lists.2 in absurd (omega arith),
    ))
    (λ some_time.
    let one_time : times_listed page s.views ≡ 1 = omega arith in
    let h = holder s.views page (omega arith) in
    inl (is ∙ one_time, (h.0, h.1, λ other there. only s.views page h.0 other once h.1 there (ℕ_discrete other h.0))))
