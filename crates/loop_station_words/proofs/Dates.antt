-- Years and months.
use Rattle.std.proofs.Common.{◌≡◌, ℕ, ◌+◌, ◌≤◌, true, false, refl, arith, add-one, if◌then◌else◌}
use Rattle.std.proofs.lemmas.Grind.{common_steps}
use Rattle.loop_station_words.specs.Calendar.{is_leap, days_to_year, days_to_month, year_length, month_length}

pub year_more : (n : ℕ) → days_to_year (n + 1) ≡ days_to_year n + year_length (1970 + n)
unfolding days_to_year
year_more n = rw add-one refl

pub month_more : (year n : ℕ) → days_to_month year (n + 1) ≡ days_to_month year n + month_length year n
unfolding days_to_month
month_more year n = rw add-one refl

pub year_none : days_to_year 0 ≡ 0
unfolding days_to_year
year_none = refl

pub month_none : (year : ℕ) → days_to_month year 0 ≡ 0
unfolding days_to_month
month_none year = refl

-- twelve months are a year
pub twelve : (year : ℕ) → days_to_month year 12 ≡ year_length year
unfolding days_to_month
twelve year =
    elim (is_leap year) as
    (λ b. 0 + 31 + (if b then 29 else 28) + 31 + 30 + 31 + 30 + 31 + 31 + 30 + 31 + 30 + 31 ≡
    (if b then 366 else 365)) [ true ↦ refl | false ↦ refl ]

pub year_long : (year : ℕ) → 1 ≤ year_length year
year_long year = elim (is_leap year) as (λ b. 1 ≤ (if b then 366 else 365)) [ true ↦ omega arith | false ↦ omega arith ]

pub year_most : (year : ℕ) → year_length year ≤ 366
year_most year = elim (is_leap year) as (λ b. (if b then 366 else 365) ≤ 366) [ true ↦ omega arith | false ↦ omega arith ]

pub month_most : (year month : ℕ) → month_length year month ≤ 31
month_most year month = grind (arith, common_steps)
