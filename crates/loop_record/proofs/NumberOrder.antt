-- Numbers that rise, and what is held.
use Rattle.std.proofs.Common.{◌≡◌, ◌⊎◌, inl, inr, ℕ, zero, suc, ◌+◌, ◌<◌, ◌≤◌, Bool, true, false, cond, eqb, is_some, Some, List, [], ◌∷◌, ◌++◌, length, map, refl, sym, ap, ◌∙◌, arith}
use Rattle.std.proofs.lemmas.Bool.Decides.{nat_tests}
use Rattle.std.specs.List.{filter, enumerate_from, list_all, list_any, range_with_len}
use Rattle.std.specs.Prelude.{Contains, ◌&&◌, ◌||◌}
use Rattle.loop_record.specs.Recording.{Picture, RiseBetween, frame_under}
use Rattle.loop_record.proofs.TestFacts.{both, equal, neither}

-- ---- numbers that rise

pub RiseBetween-le : (low high : ℕ) (fs : List (ℕ × Picture)) → RiseBetween low high fs → low ≤ high
RiseBetween-le low high [] h = h
RiseBetween-le low high (f ∷ fs) h = omega (arith, h.0, RiseBetween-le (f.0 + 1) high fs h.1)

pub RiseBetween-lower : (low low' high : ℕ) (fs : List (ℕ × Picture)) → low' ≤ low → RiseBetween low high fs
    → RiseBetween low' high fs
RiseBetween-lower low low' high [] l h = omega (arith, l, h)
RiseBetween-lower low low' high (f ∷ fs) l h = (omega (arith, l, h.0), h.1)

pub RiseBetween-append : (low mid high : ℕ) (fs gs : List (ℕ × Picture)) → RiseBetween low mid fs
    → RiseBetween mid high gs → RiseBetween low high (fs ++ gs)
RiseBetween-append low mid high [] gs h k = RiseBetween-lower mid low high gs h k
RiseBetween-append low mid high (f ∷ fs) gs h k = (h.0, RiseBetween-append (f.0 + 1) mid high fs gs h.1 k)

pub RiseBetween-filter : (p : ℕ × Picture → Bool) (low high : ℕ) (fs : List (ℕ × Picture)) → RiseBetween low high fs
    → RiseBetween low high (filter p fs)
RiseBetween-filter p low high [] h = h
RiseBetween-filter p low high (f ∷ fs) h = go (p f) (RiseBetween-filter p (f.0 + 1) high fs h.1)
  where
    go : (b : Bool) → RiseBetween (f.0 + 1) high (filter p fs)
        → RiseBetween low high (cond b (f ∷ filter p fs) (filter p fs))
    go true k = (h.0, k)
    go false k = RiseBetween-lower (f.0 + 1) low high (filter p fs) (omega (arith, h.0)) k

pub RiseBetween-enumerate : (n high : ℕ) (ps : List Picture) → n + length ps ≤ high
    → RiseBetween n high (enumerate_from n ps)
RiseBetween-enumerate n high [] h = omega (arith, h)
RiseBetween-enumerate n high (p ∷ ps) h = (omega arith, RiseBetween-enumerate (n + 1) high ps (omega (arith, h)))

-- ---- elements

-- b is one of the list
abbrev pub Among : ℕ → List ℕ → Type 0
Among b [] = ⊥
Among b (c ∷ cs) = (c ≡ b) ⊎ Among b cs

abbrev pub numbers_of : List (ℕ × Picture) → List ℕ
numbers_of fs = map (λ f. f.0) fs

-- a number that is held is one of the numbers
pub held-among : (n : ℕ) (fs : List (ℕ × Picture)) → is_some (frame_under fs n) ≡ true → Among n (numbers_of fs)
held-among n [] e = absurd cc
held-among n (f ∷ fs) e = go (eqb f.0 n) refl (held-among n fs) e
  where
    go : (t : Bool) → eqb f.0 n ≡ t → (is_some (frame_under fs n) ≡ true → Among n (numbers_of fs))
        → is_some (cond t (Some f.1) (frame_under fs n)) ≡ true → (f.0 ≡ n) ⊎ Among n (numbers_of fs)
    go true is rest h = inl (equal f.0 n is)
    go false is rest h = inr (rest h)

pub among-held : (n : ℕ) (fs : List (ℕ × Picture)) → Among n (numbers_of fs) → is_some (frame_under fs n) ≡ true
among-held n [] e = elim e [ ]
among-held n (f ∷ fs) e = go (eqb f.0 n) refl (λ h. among-held n fs h) e
  where
    clash : (t : Bool) → t ≡ false → t ≡ true → ⊥
    clash true e f = absurd cc
    clash false e f = absurd cc

    same : f.0 ≡ n → eqb f.0 n ≡ true
    same is = grind (arith, nat_tests, is)

    go : (t : Bool) → eqb f.0 n ≡ t → (Among n (numbers_of fs) → is_some (frame_under fs n) ≡ true) → (f.0 ≡ n)
        ⊎ Among n (numbers_of fs) → is_some (cond t (Some f.1) (frame_under fs n)) ≡ true
    go true is rest h = refl
    go false is rest (inl h) = absurd (clash (eqb f.0 n) is (same h))
    go false is rest (inr h) = rest h

-- each number lies in the range
pub among-range : (low high n : ℕ) (fs : List (ℕ × Picture)) → RiseBetween low high fs → Among n (numbers_of fs)
    → (low ≤ n) × (n < high)
among-range low high n [] h e = elim e [ ]
among-range low high n (f ∷ fs) h (inl is) = (omega (arith, h.0, is), omega (arith, is, RiseBetween-le (f.0 + 1) high fs h.1))
among-range low high n (f ∷ fs) h (inr rest) = let k = among-range (f.0 + 1) high n fs h.1 rest in (omega (arith, h.0, k.0), k.1)

-- ---- tests over a range

pub all_range-each : (p : ℕ → Bool) (lo len n : ℕ) → list_all p (range_with_len lo len) ≡ true → lo ≤ n → n < lo + len
    → p n ≡ true
all_range-each p lo zero n e low high = absurd (omega (arith, low, high))
all_range-each p lo (suc len) n e low high =
    let k = both (p lo) (list_all p (range_with_len (lo + 1) len)) e in
    go (eqb lo n) refl k.0 (λ l. all_range-each p (lo + 1) len n k.1 l (omega (arith, high)))
  where
    go : (t : Bool) → eqb lo n ≡ t → p lo ≡ true → (lo + 1 ≤ n → p n ≡ true) → p n ≡ true
    go true is here rest = ap p (sym (equal lo n is)) ∙ here
    go false is here rest = rest (beyond is)
      where
        beyond : eqb lo n ≡ false → lo + 1 ≤ n
        beyond e = grind (arith, nat_tests, e, low)

pub each-all_range : (p : ℕ → Bool) (lo len : ℕ) → ((n : ℕ) → lo ≤ n → n < lo + len → p n ≡ true)
    → list_all p (range_with_len lo len) ≡ true
each-all_range p lo zero h = refl
each-all_range p lo (suc len) h =
    let first = h lo (omega arith) (omega arith) in
    let rest = each-all_range p (lo + 1) len (λ n l u. h n (omega (arith, l)) (omega (arith, u))) in
    λ i. first i && rest i

-- ---- tests over a list

-- a test that no element passes
pub none-each : {X : Type 0} (p : X → Bool) (xs : List X) (x : X) → list_any p xs ≡ false → Contains xs x → p x ≡ false
none-each p [] x e h = absurd (omega (arith, h.1))
none-each p (y ∷ ys) x e h = go (λ c. none-each p ys x k.1 c) h
  where
    k : (p y ≡ false) × (list_any p ys ≡ false)
    k = neither (p y) (list_any p ys) e

    go : (Contains ys x → p x ≡ false) → Contains (y ∷ ys) x → p x ≡ false
    go rest (zero, l, is) = ap p (sym is) ∙ k.0
    go rest (suc i, l, is) = rest (i, omega (arith, l), is)

pub each-none : {X : Type 0} (p : X → Bool) (xs : List X) → ((x : X) → Contains xs x → p x ≡ false)
    → list_any p xs ≡ false
each-none p [] h = refl
each-none p (y ∷ ys) h =
    let first = h y (zero, omega arith, refl) in
    let rest = each-none p ys (λ x c. h x (suc c.0, omega (arith, c.1), c.2)) in
    λ i. first i || rest i
