-- How often lists contain a page, and how often views list it.
use Rattle.std.proofs.Common.{◌≡◌, ◌≢◌, ℕ, zero, suc, ◌+◌, Bool, eqb, if◌then◌else◌, List, [], ◌∷◌, ◌++◌, set, sym, refl, ap, arith, eq-eqb, ne_eqb}
use mathlib.Core.Option.{some, some-injective, some-ne-none}
use lib.ListN.{get_elem?}
use Rattle.loop_pages.specs.declared.rule.Holding.{Holding}
use Rattle.loop_pages.specs.Words.{holding, times, times_listed}

-- how often a list of just one contains a page
abbrev pub one : ℕ → ℕ → ℕ
one page other = if eqb page other then 1 else 0

pub one_same : (page other : ℕ) → page ≡ other → one page other ≡ 1
one_same page other e = ap (λ (b : Bool). if b then 1 else 0) (eq-eqb page other e)

pub one_other : (page other : ℕ) → page ≢ other → one page other ≡ 0
one_other page other e = ap (λ (b : Bool). if b then 1 else 0) (ne_eqb page other e)

pub times-append : (page : ℕ) (pages : List ℕ) (last : ℕ)
    → times page (pages ++ last ∷ []) ≡ times page pages + one page last
times-append page [] last = omega arith
times-append page (p ∷ ps) last = let r = times-append page ps last in omega arith

pub listed-append : (page : ℕ) (views : List Holding)
    → times_listed page (views ++ holding [] [] [] ∷ []) ≡ times_listed page views
listed-append page [] = refl
listed-append page (v ∷ vs) = ap (λ (n : ℕ). times page v.pages + n) (listed-append page vs)

pub listed-set : (page : ℕ) (views : List Holding) (id : ℕ) (v w : Holding) → get_elem? views id ≡ some v
    → times_listed page (set views id w) + times page v.pages ≡ times_listed page views + times page w.pages
listed-set page [] id v w at = absurd (some-ne-none v (sym at))
listed-set page (x ∷ xs) zero v w at = let is : times page x.pages ≡ times page v.pages =
    ap (λ (u : Holding). times page u.pages) (some-injective x v at) in omega arith
listed-set page (x ∷ xs) (suc id) v w at = let r = listed-set page xs id v w at in omega arith
