-- Lists of cameras as threads are started for them, and what came of them all.
use Rattle.std.proofs.Common.{◌≡◌, ◌<◌, List, [], ◌∷◌, ◌++◌, ap, append_assoc, arith, length, slice_index_or, sym, map, ◌∙◌}
use Rattle.std.specs.List.{remove}

-- the first of a list is taken
pub taken : {X : Type 0} (xs ys : List X) (x : X) → 0 < length xs → x ≡ slice_index_or xs 0 x → ys ≡ remove xs 0
    → xs ≡ x ∷ ys
taken [] ys x some value items = absurd (omega (arith, some))
taken (y ∷ zs) ys x some value items = ap (λ z. z ∷ zs) (sym value) ∙ ap (λ l. x ∷ l) (sym items)

-- no thread was started for the first that is left
pub stopped : {X Z : Type 0} (f : X → Z) (old : List X) (y z : Z) (before after all : List Z) → before ≡ z ∷ after
    → y ≡ z → map f old ++ before ≡ all → map f old ++ y ∷ [] ++ after ≡ all
stopped f old y z before after all was same so =
    append_assoc (map f old) (y ∷ []) after ∙ ap (λ x. map f old ++ x ∷ after) same
    ∙ ap (λ l. map f old ++ l) (sym was) ∙ so

-- what came of those that were started, of one, and of the rest is what came of all
pub all-told : {Z : Type 0} (result with_one joined started one rest all : List Z) → result ≡ with_one ++ rest
    → with_one ≡ joined ++ one → joined ≡ started → started ++ one ++ rest ≡ all → result ≡ all
all-told result with_one joined started one rest all last more are so =
    last ∙ ap (λ l. l ++ rest) (more ∙ ap (λ l. l ++ one) are) ∙ so
