-- Tests, and the facts that they decide.
use Rattle.std.proofs.Common.{◌≡◌, ℕ, ◌≤◌, Bool, true, false, not, ◌&&◌, eqb, ltb, leb, refl, arith}
use Rattle.std.proofs.lemmas.Bool.Decides.{nat_tests}
use Rattle.std.specs.Prelude.{◌||◌}

-- a test isn't both
pub clash : (t : Bool) → t ≡ true → t ≡ false → ⊥
clash true e f = absurd cc
clash false e f = absurd cc

pub both : (a b : Bool) → (a && b) ≡ true → (a ≡ true) × (b ≡ true)
both true b e = (refl, e)
both false b e = absurd cc

pub neither : (a b : Bool) → (a || b) ≡ false → (a ≡ false) × (b ≡ false)
neither true b e = absurd cc
neither false b e = (refl, e)

pub or_false : (a b : Bool) → a ≡ false → b ≡ false → (a || b) ≡ false
or_false a b e f = λ i. e i || f i

pub not_false : (b : Bool) → not b ≡ false → b ≡ true
not_false true e = refl
not_false false e = absurd cc

pub not_true : (b : Bool) → not b ≡ true → b ≡ false
not_true true e = absurd cc
not_true false e = refl

-- a test that isn't true
pub untrue : (b : Bool) → (b ≡ true → ⊥) → b ≡ false
untrue true h = absurd (h refl)
untrue false h = refl

pub equal : (m n : ℕ) → eqb m n ≡ true → m ≡ n
equal m n e = grind (arith, nat_tests, e)

pub equal_test : (m n : ℕ) → m ≡ n → eqb m n ≡ true
equal_test m n e = grind (arith, nat_tests, e)

pub differ : (m n : ℕ) → eqb m n ≡ false → m ≡ n → ⊥
differ m n e same = clash (eqb m n) (equal_test m n same) e

pub differ_test : (m n : ℕ) → (m ≡ n → ⊥) → eqb m n ≡ false
differ_test m n apart = untrue (eqb m n) (λ e. apart (equal m n e))

pub at_most : (m n : ℕ) → leb m n ≡ true → m ≤ n
at_most m n e = grind (arith, nat_tests, e)

pub at_most_test : (m n : ℕ) → m ≤ n → leb m n ≡ true
at_most_test m n h = grind (arith, nat_tests, h)

pub not_below : (m n : ℕ) → ltb m n ≡ false → n ≤ m
not_below m n e = grind (arith, nat_tests, e)

pub not_below_test : (m n : ℕ) → n ≤ m → ltb m n ≡ false
not_below_test m n h = grind (arith, nat_tests, h)
