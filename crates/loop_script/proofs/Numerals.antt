-- Numerals, as `parse` reads them.
use Rattle.std.proofs.Common.{◌≡◌, ℕ, ◌≤◌, ◌^◌, List, length, true, Result, Ok, Err, arith, rules}
use Rattle.std.specs.Char.{is_ascii_digit}
use Rattle.std.specs.List.{list_all}
use Rattle.std.specs.Str.Parse.{ParsesUnsigned, digits_value}
use Rattle.std.specs.Result.{result_ok}
use Rattle.std.proofs.lemmas.Str.Parse.{IsDigitsTest, IsNumeralModel, numerals_by_value, parse_digits}
use Rattle.std.proofs.lemmas.Grind.{common_steps}
use Rattle.loop_script.specs.Script.{number_below}

tells : IsDigitsTest (λ ds. list_all is_ascii_digit ds ≡ true)
tells = search rules

own : IsNumeralModel (λ ds. list_all is_ascii_digit ds ≡ true) (digits_value 10)
own = numerals_by_value _ tells

-- at most 20 digits, as `parse` reads them
pub number-parsed : {E : Type 0} (word : List ℕ) (r : Result ℕ E) → length word ≤ 20
    → list_all is_ascii_digit word ≡ true → ParsesUnsigned 64 10 word r → result_ok r ≡ number_below (2 ^ 64) word
number-parsed {E} word (Ok x) short digits parses =
    let h = parse_digits own {E = E} 64 word (Ok x) parses digits in
    grind (arith, common_steps, h.0.0, h.0.1, h.1, short, digits)
number-parsed {E} word (Err e) short digits parses =
    let h = parse_digits own {E = E} 64 word (Err e) parses digits in
    grind (arith, common_steps, h, short, digits)
