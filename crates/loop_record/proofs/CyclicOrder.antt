-- The order of sequences.
use Rattle.std.proofs.Common.{◌≡◌, ◌⊎◌, inl, inr, ℕ, ◌+◌, ◌-◌, ◌*◌, ◌/◌, ◌%◌, ◌^◌, ◌<◌, ◌≤◌, sym, ap, ◌∙◌, arith}
use Rattle.std.proofs.lemmas.Bool.{cases_order}
use Rattle.std.proofs.lemmas.Nat.{mod_below, mod-mul-add}
use Rattle.std.proofs.Math.Nat.{add-mod_right, mod-add-mod, mod-eq_of_lt, mod-add-div'}
use Rattle.loop_record.specs.Counts.{NewestIsLast, OneIsOlder, OrderIsTrue, PlacesAreCounts, cyclic_place}

some : 0 < 2 ^ 32
some = omega arith

mod-is : (w q r n : ℕ) → r < w → n ≡ q * w + r → n % w ≡ r
mod-is w q r n l e = ap (λ k. k % w) e ∙ mod-mul-add q w r l

whole-turn : (w end a : ℕ) → end < w → a + (w - end) + end ≡ a + w
whole-turn w end a e = omega (arith, e)

back-again : (w end a : ℕ) → end < w → a < w → ((a + (w - end)) % w + end) % w ≡ a
back-again w end a e s =
    mod-add-mod (a + (w - end)) w end ∙ ap (λ k. k % w) (whole-turn w end a e) ∙ add-mod_right a w ∙ mod-eq_of_lt s

older-or : (end a b : ℕ) → end < 2 ^ 32 → a < 2 ^ 32 → b < 2 ^ 32
    → (cyclic_place end a ≡ cyclic_place end b)
    ⊎ ((cyclic_place end a < cyclic_place end b) ⊎ (cyclic_place end b < cyclic_place end a))
    → (cyclic_place end a < cyclic_place end b) ⊎ (cyclic_place end b < cyclic_place end a) ⊎ (a ≡ b)
older-or end a b e s t (inl same) =
    inr (inr (sym (back-again (2 ^ 32) end a e s) ∙ ap (λ k. (k + end) % 2 ^ 32) same ∙ back-again (2 ^ 32) end b e t))
older-or end a b e s t (inr (inl less)) = inl less
older-or end a b e s t (inr (inr more)) = inr (inl more)

pub one-older : OneIsOlder
one-older end a b e s t = older-or end a b e s t (cases_order (cyclic_place end a) (cyclic_place end b))

sum-is : (w end a r b p : ℕ) → r + b ≡ end → r < w → p + end ≡ a + w → a + (w - r) ≡ b + p
sum-is w end a r b p whole low all = omega (arith, whole, low, all)

of-count : (w end a p : ℕ) → 0 < w → p < w → p + end ≡ a + w → (a % w + (w - end % w)) % w + end ≡ a + w
of-count w end a p more short all =
    let sum : a + (w - end % w) ≡ end / w * w + p =
    sum-is w end a (end % w) (end / w * w) p (mod-add-div' end w) (mod_below end w more) all in
    let is : (a % w + (w - end % w)) % w ≡ p =
    mod-add-mod a w (w - end % w) ∙ mod-is w (end / w) p (a + (w - end % w)) short sum in
    ap (λ k. k + end) is ∙ all

pub places-are : PlacesAreCounts
places-are end a before near =
    of-count (2 ^ 32) end a (a + 2 ^ 32 - end) some (omega (arith, before, near)) (omega (arith, near))

less-by : (p q end a b w : ℕ) → p + end ≡ a + w → q + end ≡ b + w → a < b → p < q
less-by p q end a b w x y less = omega (arith, x, y, less)

pub order-true : OrderIsTrue
order-true end a b ba na bb nb less =
    less-by (cyclic_place (end % 2 ^ 32) (a % 2 ^ 32)) (cyclic_place (end % 2 ^ 32) (b % 2 ^ 32)) end a b (2 ^ 32)
    (places-are end a ba na) (places-are end b bb nb) less

last-of : (w end newest : ℕ) → 0 < w → newest < w → end ≡ (newest + 1) % w
    → (newest + 1 ≡ w) ⊎ ((newest + 1 < w) ⊎ (w < newest + 1)) → (newest + (w - end)) % w + 1 ≡ w
last-of w end newest more s is (inl round) =
    let zero-end : end ≡ 0 = is ∙ mod-is w 1 0 (newest + 1) more (omega (arith, round)) in
    let at : (newest + (w - end)) % w ≡ newest =
    mod-is w 1 newest (newest + (w - end)) s (omega (arith, zero-end)) in
    omega (arith, at, round)
last-of w end newest more s is (inr (inl below)) =
    let next : end ≡ newest + 1 = is ∙ mod-eq_of_lt below in
    let sum : newest + (w - end) + 1 ≡ w = omega (arith, next, below) in
    let low : newest + (w - end) < w = omega (arith, next, below) in
    ap (λ k. k + 1) (mod-eq_of_lt low) ∙ sum
last-of w end newest more s is (inr (inr above)) = absurd (omega (arith, above, s))

at-most : (p q w : ℕ) → q + 1 ≡ w → p < w → p ≤ q
at-most p q w last low = omega (arith, last, low)

pub newest-last : NewestIsLast
newest-last end newest a e s is =
    at-most (cyclic_place end a) (cyclic_place end newest) (2 ^ 32)
    (last-of (2 ^ 32) end newest some s is (cases_order (newest + 1) (2 ^ 32)))
    (mod_below (a + (2 ^ 32 - end)) (2 ^ 32) some)
