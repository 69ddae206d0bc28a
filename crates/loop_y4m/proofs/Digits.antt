-- Decimal numbers as they are written and read.
use Rattle.std.proofs.Common.{◌≡◌, ℕ, ◌+◌, ◌<◌, ◌≤◌, ◌^◌, Bool, true, false, Some, List, [], ◌∷◌, ◌++◌, length, take, drop, refl, ap, arith, eqb, sym, length-append, append_assoc, ◌∙◌}
use Rattle.std.specs.Prelude.{decimal, None, if◌then◌else◌}
use Rattle.std.specs.Char.{is_ascii_digit}
use Rattle.std.specs.List.{after_first, before_first, position_or_len}
use Rattle.std.specs.Str.{all_ascii_digits}
use Rattle.std.specs.Str.Parse.{digits_value}
use Rattle.std.proofs.lemmas.Bool.{both_ways, eqb-true, lt-ltb, le-leb}
use Rattle.std.proofs.lemmas.Fmt.{decimal_nonempty, digits_decimal, digits_value-decimal}
use Rattle.std.proofs.lemmas.Str.Parse.{IsNumeralModel, numerals_by_value, tells_all_ascii_digits}
use Rattle.loop_y4m.proofs.Places.{Lacks, behind}
use Rattle.loop_y4m.specs.Header.{is_colon, number_at_most, rate, side}
use Rattle.loop_record.proofs.TestFacts.{both}
use Rattle.std.proofs.lemmas.List.{take_at, drop_at}

-- ---- digits

digits_by : (same : Bool) (c d : ℕ) (ds : List ℕ) → eqb d c ≡ same → is_ascii_digit c ≡ false
    → is_ascii_digit d ≡ true → Lacks c ds → Lacks c (d ∷ ds)
digits_by true c d ds is other digit rest = absurd (both_ways (is_ascii_digit c) other (rw (eqb-true d c is) at digit))
digits_by false c d ds is other digit rest = rw is (omega (arith, rest))

-- digits have no other byte among them
digits_lack : (c : ℕ) (ds : List ℕ) → is_ascii_digit c ≡ false → all_ascii_digits ds ≡ true → Lacks c ds
digits_lack c [] other digits = refl
digits_lack c (d ∷ ds) other digits =
    let parts = both (is_ascii_digit d) (all_ascii_digits ds) digits in
    digits_by (eqb d c) c d ds refl other parts.0 (digits_lack c ds other parts.1)

-- ---- a decimal number

own : IsNumeralModel (λ ds. all_ascii_digits ds ≡ true) (digits_value 10)
own = numerals_by_value (λ ds. all_ascii_digits ds ≡ true) tells_all_ascii_digits

pub decimal_lacks : (c n : ℕ) → is_ascii_digit c ≡ false → n < 2 ^ 64 → Lacks c (decimal n)
decimal_lacks c n other small = digits_lack c (decimal n) other (digits_decimal own n small)

-- a number that is written is read as that number
pub number_decimal : (most n : ℕ) → n ≤ most → n < 2 ^ 64 → number_at_most most (decimal n) ≡ Some n
number_decimal most n few small = rw (lt-ltb 0 (length (decimal n)) (decimal_nonempty n small))
    (rw (digits_decimal own n small) (rw (digits_value-decimal own n small) (rw (le-leb n most few) refl)))

side_by : (n : ℕ) (none : Bool) → eqb n 0 ≡ none → 0 < n → (if none then None else Some n) ≡ Some n
side_by n true is some = absurd (omega (arith, eqb-true n 0 is, some))
side_by n false is some = refl

pub side_decimal : (n : ℕ) → 1 ≤ n → n ≤ 16384 → side (decimal n) ≡ Some n
side_decimal n some few = rw (number_decimal 16384 n few (omega (arith, few))) (side_by n (eqb n 0) refl (omega (arith, some)))

pub rate_decimals : (n d : ℕ) → n < 2 ^ 32 → d < 2 ^ 32 → rate (decimal n ++ 58 ∷ decimal d) ≡ Some (n, d)
rate_decimals n d small low =
    let at : position_or_len is_colon (decimal n ++ 58 ∷ decimal d) ≡ length (decimal n) =
    behind 58 (decimal n) (58 ∷ decimal d) (decimal_lacks 58 n refl (omega (arith, small))) ∙ omega arith in
    let front : before_first is_colon (decimal n ++ 58 ∷ decimal d) ≡ decimal n =
    ap (λ k. take k (decimal n ++ 58 ∷ decimal d)) at ∙ take_at (decimal n) (58 ∷ decimal d)
    (length (decimal n)) refl in
    let back : after_first is_colon (decimal n ++ 58 ∷ decimal d) ≡ decimal d =
    ap (λ k. drop (k + 1) (decimal n ++ 58 ∷ decimal d)) at ∙ ap (drop (length (decimal n) + 1))
    (sym (append_assoc (decimal n) (58 ∷ []) (decimal d))) ∙ drop_at (decimal n ++ 58 ∷ []) (decimal d)
    (length (decimal n) + 1) (length-append (decimal n) (58 ∷ [])) in
    rw front (rw back (rw (number_decimal 4294967295 n (omega (arith, small)) (omega (arith, small)))
    (rw (number_decimal 4294967295 d (omega (arith, low)) (omega (arith, low))) refl)))
