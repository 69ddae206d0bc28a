-- Lists of cameras and of what came of them, one more and one fewer at a time.
use Rattle.std.proofs.Common.{◌≡◌, ℕ, List, [], ◌∷◌, ◌++◌, length, map, sym, ap, ◌∙◌}
use Rattle.std.proofs.lemmas.List.{append-nil, append_assoc, map-append, nil_from_length}

module _ {X Z : Type 0} (f : X → Z) (old new : List X) (x : X) (is : new ≡ old ++ x ∷ []) where
  -- what is joined and then what is left are all, with one more joined
  pub rest-more : (z : Z) (before after all : List Z) → before ≡ z ∷ after → f x ≡ z → map f old ++ before ≡ all
      → map f new ++ after ≡ all
  rest-more z before after all was same so =
      ap (λ l. map f l ++ after) is ∙ ap (λ l. l ++ after) (map-append f old (x ∷ []))
      ∙ append_assoc (map f old) (f x ∷ []) after ∙ ap (λ y. map f old ++ y ∷ after) same
      ∙ ap (λ l. map f old ++ l) (sym was) ∙ so

  -- likewise where what is left are threads
  pub joined-more : {Y : Type 0} (h : Y → Z) (y : Y) (before after : List Y) (all : List Z) → before ≡ y ∷ after
      → f x ≡ h y → map f old ++ map h before ≡ all → map f new ++ map h after ≡ all
  joined-more h y before after all was same so =
      rest-more (h y) (map h before) (map h after) all (ap (map h) was) same so

-- what is left is nothing once its length is 0
pub none-more : {Z : Type 0} (l after all : List Z) (n : ℕ) → n ≡ length after → n ≡ 0 → l ++ after ≡ all → l ≡ all
none-more l after all n counted none so =
    sym (append-nil l) ∙ ap (λ k. l ++ k) (sym (nil_from_length after (sym counted ∙ none))) ∙ so

pub none-joined : {Y Z : Type 0} (h : Y → Z) (l : List Z) (after : List Y) (all : List Z) (n : ℕ) → n ≡ length after
    → n ≡ 0 → l ++ map h after ≡ all → l ≡ all
none-joined h l after all n counted none so =
    sym (append-nil l) ∙ ap (λ k. l ++ map h k) (sym (nil_from_length after (sym counted ∙ none))) ∙ so
