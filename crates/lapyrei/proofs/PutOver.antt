-- Memory that is filled from its front.
use Rattle.std.proofs.Common.{◌≡◌, ℕ, zero, suc, ◌+◌, ◌<◌, ◌≤◌, List, [], ◌∷◌, get_or, length, map, min, take, slice_set, refl, ap, arith, sym, ◌∙◌}
use Rattle.std.proofs.Math.Numerals.{add-one}
use Rattle.lapyrei.specs.Shown.{put_over}

-- one more
pub put_next : {A T : Type 0} (f : A → T) (xs : List A) (memory : List T) (i : ℕ) (d : A) → i < length xs
    → i < length memory
    → slice_set (put_over (map f (take i xs)) memory) i (f (get_or xs i d)) ≡ put_over (map f (take (suc i) xs)) memory
put_next f [] memory i d low room = absurd (omega (arith, low))
put_next f (x ∷ xs) [] i d low room = absurd (omega (arith, room))
put_next f (x ∷ xs) (m ∷ memory) zero d low room = refl
put_next f (x ∷ xs) (m ∷ memory) (suc i) d low room =
    ap (λ (l : List _). f x ∷ l) (put_next f xs memory i d (omega (arith, low)) (omega (arith, room)))

pub length-put_over : {T : Type 0} (xs memory : List T) → length (put_over xs memory) ≡ length memory
length-put_over [] memory = refl
length-put_over (x ∷ xs) [] = refl
length-put_over (x ∷ xs) (m ∷ memory) = ap suc (length-put_over xs memory)

-- no more than there is room for
pub put_all : {A T : Type 0} (f : A → T) (xs : List A) (memory : List T) (i : ℕ) → min (length memory) (length xs) ≤ i
    → put_over (map f (take i xs)) memory ≡ put_over (map f xs) memory
put_all f [] memory zero enough = refl
put_all f [] memory (suc i) enough = refl
put_all f (x ∷ xs) [] zero enough = refl
put_all f (x ∷ xs) [] (suc i) enough = refl
put_all f (x ∷ xs) (m ∷ memory) zero enough = absurd (omega (arith, enough))
put_all f (x ∷ xs) (m ∷ memory) (suc i) enough =
    ap (λ (l : List _). f x ∷ l) (put_all f xs memory i (omega (arith, enough)))

-- the same of a loop's values
pub put_step : {A T : Type 0} (f : A → T) (xs : List A) (memory out : List T) (i : ℕ) (d : A) (one : T) → i < length xs
    → i < length memory → out ≡ put_over (map f (take i xs)) memory → one ≡ f (get_or xs i d)
    → slice_set out i one ≡ put_over (map f (take (i + 1) xs)) memory
put_step f xs memory out i d one low room was is =
    ap (λ (l : List _). slice_set l i one) was
    ∙ ap (λ (x : _). slice_set (put_over (map f (take i xs)) memory) i x) is
    ∙ put_next f xs memory i d low room
    ∙ ap (λ (n : ℕ). put_over (map f (take n xs)) memory) (sym (add-one i))
