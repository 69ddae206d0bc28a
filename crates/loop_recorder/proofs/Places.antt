-- What stands at one place of lists that are made of each other.
use Rattle.std.proofs.Common.{◌≡◌, ℕ, List, [], ◌∷◌, ◌++◌, All, Some, ap, arith, length, map, slice_get, subst, suc, sym, take, zero, ◌∙◌}
use Rattle.std.proofs.lemmas.List.{append-nil, append_assoc, nil_from_length}
use Rattle.std.proofs.lemmas.Option.{get_or_from_slice_get, slice_get-map, slice_get_within}
use Rattle.std.specs.Option.{option_map, unwrap_or}

-- two elements are the same where the same is there
pub same-some : {X : Type 0} (x y : X) → Some x ≡ Some y → x ≡ y
same-some x y is = ap (λ o. unwrap_or o x) is

-- what each element of a list is, the one at a place is
pub all-at : {X : Type 0} (P : X → Type 0) (xs : List X) (k : ℕ) (x : X) → All P xs → slice_get xs k ≡ Some x → P x
all-at P xs k x all is = subst P (get_or_from_slice_get xs k x x is) (all k x (slice_get_within xs k x is))

-- the element from which the one of a made list was made
pub made-from : {X Z : Type 0} (f : X → Z) (xs : List X) (k : ℕ) (z : Z) → slice_get (map f xs) k ≡ Some z
    → (x : X) × (slice_get xs k ≡ Some x) × (f x ≡ z)
made-from f [] k z is = absurd (omega (arith, slice_get_within [] k z is))
made-from f (x ∷ xs) zero z is = (x, (λ i. Some x), same-some (f x) z is)
made-from f (x ∷ xs) (suc k) z is = made-from f xs k z is

-- and the one that was made of an element
pub makes : {X Z : Type 0} (f : X → Z) (xs : List X) (k : ℕ) (x : X) → slice_get xs k ≡ Some x
    → slice_get (map f xs) k ≡ Some (f x)
makes f xs k x is = slice_get-map f xs k ∙ ap (option_map f) is

-- one more is added, and one fewer is left
pub one-more : {Y Z : Type 0} (h : Y → Z) (old new : List Z) (y : Y) (before after : List Y) (all : List Z)
    → new ≡ old ++ h y ∷ [] → before ≡ y ∷ after → old ++ map h before ≡ all → new ++ map h after ≡ all
one-more h old new y before after all is was so =
    ap (λ l. l ++ map h after) is ∙ append_assoc old (h y ∷ []) (map h after) ∙ ap (λ l. old ++ map h l) (sym was) ∙ so

-- what is left is nothing once its length is 0
pub none-left : {Y Z : Type 0} (h : Y → Z) (l : List Z) (after : List Y) (all : List Z) (n : ℕ) → n ≡ length after
    → n ≡ 0 → l ++ map h after ≡ all → l ≡ all
none-left h l after all n counted none so =
    sym (append-nil l) ∙ ap (λ k. l ++ map h k) (sym (nil_from_length after (sym counted ∙ none))) ∙ so

-- the elements up to a place and the one there
pub taken-more : {X : Type 0} (xs : List X) (j n : ℕ) (x : X) → n ≡ suc j → slice_get xs j ≡ Some x
    → take n xs ≡ take j xs ++ x ∷ []
taken-more {X} xs j n x next is = ap (λ m. take m xs) next ∙ go xs j is where
  go : (ys : List X) (i : ℕ) → slice_get ys i ≡ Some x → take (suc i) ys ≡ take i ys ++ x ∷ []
  go [] i at = absurd (omega (arith, slice_get_within [] i x at))
  go (y ∷ ys) zero at = ap (λ z. z ∷ []) (same-some y x at)
  go (y ∷ ys) (suc i) at = ap (λ l. y ∷ l) (go ys i at)
