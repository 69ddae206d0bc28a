-- As many frames are estimated to be lost as a distance has periods too many.
use Rattle.std.proofs.Common.{◌≡◌, ◌⊎◌, inl, inr, ℕ, ◌+◌, ◌-◌, ◌*◌, ◌/◌, ◌%◌, ◌^◌, ◌<◌, ◌≤◌, Bool, true, false, zero, suc, List, length, min, ap, sym, ◌∙◌, arith, refl}
use Rattle.std.specs.Prelude.{count_by, nat_le, nat_lt, if◌then◌else◌}
use Rattle.std.proofs.lemmas.Bool.{cases_order, ltb-false, ltb-true}
use Rattle.std.proofs.lemmas.Grind.{common_steps}
use Rattle.std.proofs.lemmas.Nat.{mod_below}
use Rattle.std.proofs.Math.Nat.{mod-add-div', mul-le-mul_left, mul-le-mul_right}
use Rattle.loop_station_core.specs.Losses.{EstimatesAreRight, IsJudged, IsOfLost, is_judged, is_near, lost_by_time, period_of, rounded}

-- a product of one more
more : (n p : ℕ) → (n + 1) * p ≡ n * p + p
more n p = grind (arith, common_steps)

up-by : (m r p d : ℕ) → d ≡ m + r → r < p → p - r < r → (2 * m + p < 2 * d) × (2 * d ≤ 2 * m + 3 * p)
up-by m r p d e low half = (omega (arith, e, low, half), omega (arith, e, low, half))

down-by : (m r p d : ℕ) → d ≡ m + p + r → r < p → r ≤ p - r → (2 * m + p < 2 * d) × (2 * d ≤ 2 * m + 3 * p)
down-by m r p d e low half = (omega (arith, e, low, half), omega (arith, e, low, half))

-- a distance of so many periods and a rest, rounded up, or down
up : (q r p d n : ℕ) → d ≡ q * p + r → r < p → p - r < r → q ≡ n → IsOfLost n p d
up q r p d n e low half is =
    let same : q * p ≡ n * p = ap (λ k. k * p) is in up-by (n * p) r p d (omega (arith, e, same)) low half

down : (q r p d n : ℕ) → d ≡ q * p + r → r < p → r ≤ p - r → q ≡ n + 1 → IsOfLost n p d
down q r p d n e low half is =
    let same : q * p ≡ (n + 1) * p = ap (λ k. k * p) is in
    down-by (n * p) r p d (omega (arith, e, same, more n p)) low half

-- of one count of lost frames the other one is no more, and no fewer
less-up : (q r p d n : ℕ) → d ≡ q * p + r → r < p → p - r < r → IsOfLost n p d → n < q → q ≡ n
less-up q r p d n e low half of le =
    let some : (n + 1) * p ≤ q * p = mul-le-mul_right p (omega (arith, le)) in
    absurd (omega (arith, e, low, half, of.0, of.1, some, more n p))

more-up : (q r p d n : ℕ) → d ≡ q * p + r → r < p → p - r < r → IsOfLost n p d → q < n → q ≡ n
more-up q r p d n e low half of le =
    let some : (q + 1) * p ≤ n * p = mul-le-mul_right p (omega (arith, le)) in
    absurd (omega (arith, e, low, half, of.0, of.1, some, more q p))

is-up : (q r p d n : ℕ) → d ≡ q * p + r → r < p → p - r < r → IsOfLost n p d
    → (q ≡ n) ⊎ ((q < n) ⊎ (n < q)) → q ≡ n
is-up q r p d n e low half of (inl same) = same
is-up q r p d n e low half of (inr (inl le)) = more-up q r p d n e low half of le
is-up q r p d n e low half of (inr (inr le)) = less-up q r p d n e low half of le

less-down : (q r p d n : ℕ) → d ≡ q * p + r → r < p → r ≤ p - r → IsOfLost n p d → n + 1 < q → q ≡ n + 1
less-down q r p d n e low half of le =
    let some : (n + 1 + 1) * p ≤ q * p = mul-le-mul_right p (omega (arith, le)) in
    absurd (omega (arith, e, low, half, of.0, of.1, some, more n p, more (n + 1) p))

more-down : (q r p d n : ℕ) → d ≡ q * p + r → r < p → r ≤ p - r → IsOfLost n p d → q < n + 1 → q ≡ n + 1
more-down q r p d n e low half of le =
    let some : q * p ≤ n * p = mul-le-mul_right p (omega (arith, le)) in
    absurd (omega (arith, e, low, half, of.0, of.1, some))

is-down : (q r p d n : ℕ) → d ≡ q * p + r → r < p → r ≤ p - r → IsOfLost n p d
    → (q ≡ n + 1) ⊎ ((q < n + 1) ⊎ (n + 1 < q)) → q ≡ n + 1
is-down q r p d n e low half of (inl same) = same
is-down q r p d n e low half of (inr (inl le)) = more-down q r p d n e low half of le
is-down q r p d n e low half of (inr (inr le)) = less-down q r p d n e low half of le

-- a distance is its whole periods and a rest
parts : (d p : ℕ) → d ≡ d / p * p + d % p
parts d p = let all = mod-add-div' d p in omega (arith, all)

-- a quotient is no more than the distance
low-by : (q r p d : ℕ) → d ≡ q * p + r → 1 ≤ p → q ≤ d
low-by q r p d e some = let one : q * 1 ≤ q * p = mul-le-mul_left q some in omega (arith, e, one)

judged-is : (ds : List ℕ) (p d : ℕ) → is_judged ds p d ≡ true → IsJudged ds p d × (1 ≤ p)
judged-is ds p d h = (
  (grind (arith, common_steps), grind (arith, common_steps), grind (arith, common_steps), grind (arith, common_steps)),
  grind (arith, common_steps),
)

judged-for : (ds : List ℕ) (p d : ℕ) → IsJudged ds p d → 1 ≤ p → is_judged ds p d ≡ true
judged-for ds p d h some = grind (arith, common_steps)

-- no frame is lost where the period is nothing
some-by : (n p d : ℕ) → 1 ≤ d → IsOfLost n p d → 1 ≤ p
some-by n zero d some of = absurd (omega (arith, of.1, some, nothing n))
  where
    nothing : (n : ℕ) → n * 0 ≡ 0
    nothing n = grind (arith, common_steps)
some-by n (suc p) d some of = omega arith

-- how many are told
value-up : (ds : List ℕ) (header d : ℕ) → let p = period_of ds header in is_judged ds p d ≡ true → 1 ≤ p
    → d / p + 1 ≤ 2 ^ 64 - 1 → nat_lt (p - d % p) (d % p) ≡ true → lost_by_time ds header d ≡ d / p
value-up ds header d h some fits e = grind (arith, common_steps)

value-down : (ds : List ℕ) (header d : ℕ) → let p = period_of ds header in is_judged ds p d ≡ true → 1 ≤ p
    → nat_lt (p - d % p) (d % p) ≡ false → lost_by_time ds header d ≡ d / p - 1
value-down ds header d h some e = grind (arith, common_steps)

told : (ds : List ℕ) (header d n : ℕ) → let p = period_of ds header in 1 ≤ n → is_judged ds p d ≡ true
    → lost_by_time ds header d ≡ n → IsOfLost n p d
told ds header d n one h is = at (nat_lt (p - d % p) (d % p)) refl
  where
    p : ℕ
    p = period_of ds header

    j : IsJudged ds p d × (1 ≤ p)
    j = judged-is ds p d h

    e : d ≡ d / p * p + d % p
    e = parts d p

    rest : d % p < p
    rest = mod_below d p j.1

    low : d / p ≤ d
    low = low-by (d / p) (d % p) p d e j.1

    at : (b : Bool) → nat_lt (p - d % p) (d % p) ≡ b → IsOfLost n p d
    at true t =
        let value = value-up ds header d h j.1 (omega (arith, low, j.0.1)) t in
        up (d / p) (d % p) p d n e rest (ltb-true (p - d % p) (d % p) t) (omega (arith, value, is))
    at false t =
        let value = value-down ds header d h j.1 t in
        down (d / p) (d % p) p d n e rest (ltb-false (p - d % p) (d % p) t) (omega (arith, value, is, one))

counted : (ds : List ℕ) (header d n : ℕ) → let p = period_of ds header in 1 ≤ n → IsJudged ds p d
    → IsOfLost n p d → lost_by_time ds header d ≡ n
counted ds header d n one j of = at (nat_lt (p - d % p) (d % p)) refl
  where
    p : ℕ
    p = period_of ds header

    some : 1 ≤ p
    some = some-by n p d (omega (arith, j.0)) of

    h : is_judged ds p d ≡ true
    h = judged-for ds p d j some

    e : d ≡ d / p * p + d % p
    e = parts d p

    rest : d % p < p
    rest = mod_below d p some

    low : d / p ≤ d
    low = low-by (d / p) (d % p) p d e some

    at : (b : Bool) → nat_lt (p - d % p) (d % p) ≡ b → lost_by_time ds header d ≡ n
    at true t =
        let value = value-up ds header d h some (omega (arith, low, j.1)) t in
        value ∙ is-up (d / p) (d % p) p d n e rest (ltb-true (p - d % p) (d % p) t) of (cases_order (d / p) n)
    at false t =
        let value = value-down ds header d h some t in
        let whole = is-down (d / p) (d % p) p d n e rest (ltb-false (p - d % p) (d % p) t) of
        (cases_order (d / p) (n + 1)) in
        omega (arith, value, whole)

pub estimates-right : EstimatesAreRight
estimates-right ds header d n one = (only, (λ j of. counted ds header d n one j of))
  where
    p : ℕ
    p = period_of ds header

    only : lost_by_time ds header d ≡ n → IsJudged ds p d × IsOfLost n p d
    only is = at (is_judged ds p d) refl
      where
        at : (b : Bool) → is_judged ds p d ≡ b → IsJudged ds p d × IsOfLost n p d
        at true h = ((judged-is ds p d h).0, told ds header d n one h is)
        at false h = absurd (none h)
          where
            none : is_judged ds p d ≡ false → ⊥
            none h = grind (arith, common_steps)
