-- What the first stores have told, and one more.
use Rattle.std.proofs.Common.{◌≡◌, ◌==◌, ◌++◌, ◌<◌, ◌≤◌, ◌⊎◌, ◌↔◌, inl, inr, IfSome, ℕ, ◌+◌, Bool, true, false, cond, zero, suc, Option, Some, None, List, [], ◌∷◌, All, length, slice_get, slice_index_or, refl, sym, ap, ◌∙◌, subst, arith}
use Rattle.std.specs.List.{position, position_or_len}
use Rattle.std.proofs.Math.Dec.{ltb}
use Rattle.std.proofs.lemmas.Bool.{eqb-true, eqb-false, eq-eqb, lt-ltb, le-ltb, ltb-false}
use Rattle.std.proofs.lemmas.List.Folds.{position_or_len_push}
use Rattle.std.proofs.lemmas.List.Sums.{fails_before_first, prefix_len-le-length}
use Rattle.std.proofs.lemmas.List.{length-append}
use Rattle.std.proofs.lemmas.Option.{slice_get_within, slice_get-get_or, get_or_from_slice_get}
use Rattle.loop_desk.specs.declared.limits.Space.{Space}
use Rattle.loop_pipeline.specs.Nexts.{IsBest, IsElsewhere, IsFreeAt, IsFull, TakesNext, IsSearch, has_free, with_last}
use Rattle.loop_pipeline.specs.declared.next.Search.{Search}
use Rattle.loop_pipeline.proofs.Oldest.{best-of-all, none-of-all}
use Rattle.loop_pipeline.proofs.Places.{get-joined}

-- ---- one more at the end of a list

pub get-before : {X : Type 0} (xs : List X) (x y : X) (i : ℕ) → slice_get xs i ≡ Some y → slice_get (xs ++ x ∷ []) i ≡ Some y
get-before [] x y i is = absurd (cc)
get-before (z ∷ xs) x y zero is = is
get-before (z ∷ xs) x y (suc i) is = get-before xs x y i is

pub get-last : {X : Type 0} (xs : List X) (x : X) (i : ℕ) → i ≡ length xs → slice_get (xs ++ x ∷ []) i ≡ Some x
get-last [] x zero is = refl
get-last [] x (suc i) is = absurd (omega (arith, is))
get-last (z ∷ xs) x zero is = absurd (omega (arith, is))
get-last (z ∷ xs) x (suc i) is = get-last xs x i (omega (arith, is))

-- below its length it has what it had
pub get-below : {X : Type 0} (xs : List X) (x y : X) (i : ℕ) → i < length xs → slice_get (xs ++ x ∷ []) i ≡ Some y
    → slice_get xs i ≡ Some y
get-below xs x y i less is = go (get-joined xs x y i is)
  where
    go : ((i < length xs) × (slice_get xs i ≡ Some y)) ⊎ ((i ≡ length xs) × (y ≡ x)) → slice_get xs i ≡ Some y
    go (inl both) = both.1
    go (inr both) = absurd (omega (arith, less, both.0))

-- ---- the first that passes

-- the first place in a list that is so long
abbrev first-of : ℕ → ℕ → Option ℕ
first-of place long = cond (ltb place long) (Some place) None

pub position-push : {X : Type 0} (p : X → Bool) (xs : List X) (x : X)
    → position p (xs ++ x ∷ []) ≡ with_last (position p xs) (p x) (length xs)
position-push {X} p xs x = go (at == length xs) refl
  where
    at : ℕ
    at = position_or_len p xs

    most : at ≤ length xs
    most = prefix_len-le-length _ xs

    push : position p (xs ++ x ∷ []) ≡ first-of (cond (at == length xs) (length xs + cond (p x) 0 1) at) (length xs + 1)
    push = ap (λ n. first-of (position_or_len p (xs ++ x ∷ [])) n) (length-append xs (x ∷ []))
        ∙ ap (λ n. first-of n (length xs + 1)) (position_or_len_push p xs x)

    last : (b : Bool) → first-of (length xs + cond b 0 1) (length xs + 1) ≡ cond b (Some (length xs)) None
    last true =
        ap (λ t. cond t (Some (length xs + 0)) None) (lt-ltb (length xs + 0) (length xs + 1) (omega arith))
        ∙ ap (λ n. Some n) (omega arith)
    last false = ap (λ t. cond t (Some (length xs + 1)) None) (le-ltb (length xs + 1) (length xs + 1) (omega arith))

    go : (b : Bool) → (at == length xs) ≡ b → position p (xs ++ x ∷ []) ≡ with_last (position p xs) (p x) (length xs)
    go true is =
        let none : position p xs ≡ None =
        ap (λ t. cond t (Some at) None) (le-ltb at (length xs) (omega (arith, eqb-true at (length xs) is))) in
        push ∙ (ap (λ b. first-of (cond b (length xs + cond (p x) 0 1) at) (length xs + 1)) is
        ∙ (last (p x) ∙ ap (λ o. with_last o (p x) (length xs)) (sym none)))
    go false is =
        let less : at < length xs = omega (arith, most, eqb-false at (length xs) is) in
        let some : position p xs ≡ Some at = ap (λ t. cond t (Some at) None) (lt-ltb at (length xs) less) in
        push ∙ (ap (λ b. first-of (cond b (length xs + cond (p x) 0 1) at) (length xs + 1)) is
        ∙ (ap (λ t. cond t (Some at) None) (lt-ltb at (length xs + 1) (omega (arith, less)))
        ∙ ap (λ o. with_last o (p x) (length xs)) (sym some)))

-- where none is found, none passes
pub none-passes : {X : Type 0} (p : X → Bool) (xs : List X) (i : ℕ) (x : X) → position p xs ≡ None → slice_get xs i ≡ Some x
    → p x ≡ false
none-passes {X} p xs i x none at = go (ltb first (length xs)) refl
  where
    first : ℕ
    first = position_or_len p xs

    go : (t : Bool) → ltb first (length xs) ≡ t → p x ≡ false
    go true is = absurd (let e : Some first ≡ None = ap (λ t. cond t (Some first) None) (sym is) ∙ none in cc)
    go false is =
        let less : i < length xs = slice_get_within xs i x at in
        let most : length xs ≤ first = ltb-false first (length xs) is in
        ap p (sym (get_or_from_slice_get xs i x x at)) ∙ fails_before_first p xs i x (omega (arith, less, most))

-- ---- the free segment of the active desk

module _ (active : ℕ) (spaces : List Space) (space : Space) where
  pub free-before : IsFreeAt spaces active → IsFreeAt (spaces ++ space ∷ []) active
  free-before free = (free.0, get-before spaces space free.0 active free.1, free.2)

  pub free-last : active ≡ length spaces → space.free ≡ true → IsFreeAt (spaces ++ space ∷ []) active
  free-last is free = (space, get-last spaces space active is, free)

  pub free-split : IsFreeAt (spaces ++ space ∷ []) active
      → IsFreeAt spaces active ⊎ ((active ≡ length spaces) × (space.free ≡ true))
  free-split free = go (get-joined spaces space free.0 active free.1)
    where
      go : ((active < length spaces) × (slice_get spaces active ≡ Some free.0)) ⊎ ((active ≡ length spaces) × (free.0 ≡ space))
          → IsFreeAt spaces active ⊎ ((active ≡ length spaces) × (space.free ≡ true))
      go (inl both) = inl (free.0, both.1, free.2)
      go (inr both) = inr (both.0, ap (λ s. s.free) (sym both.1) ∙ free.2)

-- ---- the oldest

-- it stays so in a longer list
pub best-beside : (end : ℕ) (spaces : List Space) (space : Space) (n : ℕ) (best : Option (ℕ × ℕ)) → n ≡ length spaces
    → IsBest end spaces n best → IsBest end (spaces ++ space ∷ []) n best
best-beside end spaces space n None long all =
    λ i s less is. all i s less (get-below spaces space s i (omega (arith, less, long)) is)
best-beside end spaces space n (Some best) long b = record {
  within = b.within;
  space = b.space;
  at = get-before spaces space b.space best.0 b.at;
  is = b.is;
  least = λ i s t less is e. b.least i s t less (get-below spaces space s i (omega (arith, less, long)) is) e;
  first = λ i s t less is e. b.first i s t less
      (get-below spaces space s i (omega (arith, less, long, b.within)) is) e;
}

-- ---- a store more

-- the active one was found to have one; or this is the active one, and has one; or neither
module _ (was free : Bool) (place active : ℕ) (here : Bool) where
  pub here-was : was ≡ true → here ≡ true → (here ≡ true) ↔ ((was ≡ true) ⊎ ((free ≡ true) × (place ≡ active)))
  here-was is so = (λ e. inl is, λ s. so)

  pub here-now : was ≡ false → free ≡ true → here ≡ (place == active)
      → (here ≡ true) ↔ ((was ≡ true) ⊎ ((free ≡ true) × (place ≡ active)))
  here-now never is so = (λ e. inr (is, eqb-true place active (sym so ∙ e)), from)
    where
      from : ((was ≡ true) ⊎ ((free ≡ true) × (place ≡ active))) → here ≡ true
      from (inl found) = absurd (let e : true ≡ false = sym found ∙ never in cc)
      from (inr both) = so ∙ eq-eqb place active both.1

  pub here-never : was ≡ false → free ≡ false → here ≡ false
      → (here ≡ true) ↔ ((was ≡ true) ⊎ ((free ≡ true) × (place ≡ active)))
  here-never never full so = (λ e. absurd (let f : true ≡ false = sym e ∙ so in cc), from)
    where
      from : ((was ≡ true) ⊎ ((free ≡ true) × (place ≡ active))) → here ≡ true
      from (inl found) = absurd (let e : true ≡ false = sym found ∙ never in cc)
      from (inr both) = absurd (let e : true ≡ false = sym both.0 ∙ full in cc)

pub search-more : (end active place : ℕ) (spaces : List Space) (space : Space) (search : Search) (here : Bool) (free : Option ℕ)
    (oldest : Option (ℕ × ℕ)) → place ≡ length spaces → IsSearch end active spaces search
    → ((here ≡ true) ↔ ((search.here ≡ true) ⊎ ((space.free ≡ true) × (place ≡ active))))
    → free ≡ with_last search.free space.free place
    → (IsBest end spaces place search.oldest → IsBest end (spaces ++ space ∷ []) (place + 1) oldest)
    → IsSearch end active (spaces ++ space ∷ []) (record { here = here; free = free; oldest = oldest })
search-more end active place spaces space search here free oldest count is at first best = record {
  here = (λ e. to (at.0 e), λ f. at.1 (back (free-split active spaces space f)));
  free = first ∙ (ap (λ o. with_last o space.free place) is.free
      ∙ (ap (λ n. with_last (position has_free spaces) space.free n) count ∙ sym (position-push has_free spaces space)));
  oldest = subst (λ n. IsBest end (spaces ++ space ∷ []) n oldest)
      (sym (length-append spaces (space ∷ []) ∙ ap (λ n. n + 1) (sym count)))
      (best (subst (λ n. IsBest end spaces n search.oldest) (sym count) is.oldest));
}
  where
    to : ((search.here ≡ true) ⊎ ((space.free ≡ true) × (place ≡ active))) → IsFreeAt (spaces ++ space ∷ []) active
    to (inl was) = free-before active spaces space (is.here.0 was)
    to (inr now) = free-last active spaces space (sym now.1 ∙ count) now.0

    back : IsFreeAt spaces active ⊎ ((active ≡ length spaces) × (space.free ≡ true))
        → (search.here ≡ true) ⊎ ((space.free ≡ true) × (place ≡ active))
    back (inl was) = inl (is.here.1 was)
    back (inr now) = inr (now.1, count ∙ sym now.0)

-- ---- what follows for the next block

module _ (end active : ℕ) (spaces : List Space) where
  -- the oldest block, or none, where no store has a free segment
  pub elsewhere-best : (best : Option (ℕ × ℕ)) (next : Option ℕ) → IfSome best (λ b. next ≡ Some b.0)
      → (best ≡ None → next ≡ None) → position has_free spaces ≡ None → IsBest end spaces (length spaces) best
      → (IsFreeAt spaces active → ⊥) → TakesNext end active spaces next
  elsewhere-best (Some b) next some none is said never =
      inr (
        never,
        subst (λ o. IsElsewhere end spaces o next) (sym is) (subst (λ n. IsElsewhere end spaces None n) (sym some)
            (best-of-all end spaces (length spaces) (Some b) b refl refl said)),
      )
  elsewhere-best None next some none is said never =
      inr (
        never,
        subst (λ o. IsElsewhere end spaces o next) (sym is) (subst (λ n. IsElsewhere end spaces None n) (sym (none refl))
            (none-of-all end spaces (length spaces) None refl refl said)),
      )

  -- where no desk takes the next block, no store has room for one
  pub all-full : TakesNext end active spaces None → All IsFull spaces
  all-full (inl here) = absurd (let e : None ≡ Some active = here.1 in cc)
  all-full (inr rest) = go (position has_free spaces) refl rest.1
    where
      go : (o : Option ℕ) → position has_free spaces ≡ o → IsElsewhere end spaces o None → All IsFull spaces
      go (Some free) is e = absurd (let no : None ≡ Some free = e in cc)
      go None is all = λ k d less.
          (none-passes has_free spaces k (slice_index_or spaces k d) is (slice_get-get_or spaces k d less), all k d less)
