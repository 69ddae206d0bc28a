-- Places of a list: what is there, and after a change.
use Rattle.std.proofs.Common.{◌≡◌, ◌≢◌, ◌++◌, ◌<◌, ◌⊎◌, inl, inr, ℕ, zero, suc, List, [], ◌∷◌, length, slice_get, slice_index_or, slice_set, Some, refl, sym, ap, ◌∙◌, subst, arith}
use Rattle.std.specs.Option.{unwrap_or}
use Rattle.std.proofs.lemmas.List.{length-set, get_or-set_same, get_or-set_other, set-get_or}
use Rattle.std.proofs.lemmas.Option.{slice_get_within, slice_get-get_or}
use Rattle.std.proofs.lemmas.Option.{get_or_from_slice_get}

pub some-same : {X : Type 0} (x y : X) → Some x ≡ Some y → x ≡ y
some-same x y e = ap (λ o. unwrap_or o x) e

-- what an index reads is there
pub read-at : {X : Type 0} (xs : List X) (i : ℕ) (x : X) → i < length xs → x ≡ slice_index_or xs i x
    → slice_get xs i ≡ Some x
read-at xs i x within is = slice_get-get_or xs i x within ∙ ap (λ y. Some y) (sym is)

pub get-set-same : {X : Type 0} (xs : List X) (i : ℕ) (old new : X) → slice_get xs i ≡ Some old
    → slice_get (slice_set xs i new) i ≡ Some new
get-set-same xs i old new is =
    let within : i < length xs = slice_get_within xs i old is in
    slice_get-get_or (slice_set xs i new) i new (subst (λ n. i < n) (sym (length-set xs i new)) within)
    ∙ ap (λ x. Some x) (get_or-set_same xs i new new within)

pub get-set-other : {X : Type 0} (xs : List X) (i j : ℕ) (new x : X) → j ≢ i
    → slice_get (slice_set xs i new) j ≡ Some x → slice_get xs j ≡ Some x
get-set-other xs i j new x apart is =
    let within : j < length xs = subst (λ n. j < n) (length-set xs i new) (slice_get_within (slice_set xs i new) j x is) in
    slice_get-get_or xs j x within
    ∙ ap (λ y. Some y) (sym (get_or-set_other xs i j new x apart) ∙ get_or_from_slice_get (slice_set xs i new) j x x is)

-- there is something at a place, with which the list stays
pub some-there : {X : Type 0} (xs : List X) (i : ℕ) → i < length xs
    → (x : X) × (slice_get xs i ≡ Some x) × (slice_set xs i x ≡ xs)
some-there [] i less = absurd (omega (arith, less))
some-there (x ∷ xs) zero less = (x, refl, refl)
some-there (x ∷ xs) (suc i) less =
    let rest = some-there xs i (omega (arith, less)) in (rest.0, rest.1, ap (λ l. x ∷ l) rest.2)

-- the later of two changes counts
pub set-twice : {X : Type 0} (xs : List X) (i : ℕ) (x y : X) → slice_set (slice_set xs i x) i y ≡ slice_set xs i y
set-twice [] i x y = refl
set-twice (z ∷ xs) zero x y = refl
set-twice (z ∷ xs) (suc i) x y = ap (λ l. z ∷ l) (set-twice xs i x y)

-- a list stays where a place is given what is there
pub set-same : {X : Type 0} (xs : List X) (i : ℕ) (x y : X) → x ≡ slice_index_or xs i x → y ≡ x → slice_set xs i y ≡ xs
set-same xs i x y is same = ap (λ z. slice_set xs i z) (same ∙ is) ∙ set-get_or xs i x

pub set-got : {X : Type 0} (xs : List X) (i : ℕ) (x y : X) → slice_get xs i ≡ Some x → y ≡ x → slice_set xs i y ≡ xs
set-got xs i x y is same =
    let there = some-there xs i (slice_get_within xs i x is) in
    ap (λ z. slice_set xs i z) (same ∙ some-same x there.0 (sym is ∙ there.1)) ∙ there.2

-- what is at a place of a list with one more at its end
pub get-joined : {X : Type 0} (xs : List X) (x y : X) (i : ℕ) → slice_get (xs ++ x ∷ []) i ≡ Some y
    → ((i < length xs) × (slice_get xs i ≡ Some y)) ⊎ ((i ≡ length xs) × (y ≡ x))
get-joined [] x y zero e = inr (refl, sym (some-same x y e))
get-joined [] x y (suc i) e = absurd (cc)
get-joined (z ∷ xs) x y zero e = inl (omega arith, e)
get-joined (z ∷ xs) x y (suc i) e = go (get-joined xs x y i e)
  where
    go : ((i < length xs) × (slice_get xs i ≡ Some y)) ⊎ ((i ≡ length xs) × (y ≡ x))
        → ((suc i < suc (length xs)) × (slice_get xs i ≡ Some y)) ⊎ ((suc i ≡ suc (length xs)) × (y ≡ x))
    go (inl both) = inl (omega (arith, both.0), both.1)
    go (inr both) = inr (ap suc both.0, both.1)
