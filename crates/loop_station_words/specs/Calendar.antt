-- Days of the calendar, and civil times: a day with its time of day.
use Rattle.std.specs.Prelude.{◌≡◌, ◌≤◌, ◌<◌, ℕ, zero, suc, ◌+◌, ◌-◌, ◌*◌, ◌%◌, ◌==◌, Bool, not, ◌&&◌, ◌||◌, if◌then◌else◌}
use Rattle.loop_station_words.specs.declared.calendar.CivilTime.{CivilTime}

-- every fourth year is a leap year, but of the full centuries only every fourth
unfoldable pub is_leap : ℕ → Bool
is_leap year = year % 4 == 0 && (not (year % 100 == 0) || year % 400 == 0)

-- the days of a year
abbrev pub year_length : ℕ → ℕ
year_length year = if is_leap year then 366 else 365

-- the days of a month; January is 0
abbrev pub month_length : ℕ → ℕ → ℕ
month_length year month =
    if month == 1 then (if is_leap year then 29 else 28)
    else if month == 3 || month == 5 || month == 8 || month == 10 then 30 else 31

-- the days of so many years from 1970 on
unfoldable pub days_to_year : ℕ → ℕ
days_to_year zero = 0
days_to_year (suc years) = days_to_year years + year_length (1970 + years)

-- the days of so many months of a year
unfoldable pub days_to_month : ℕ → ℕ → ℕ
days_to_month year zero = 0
days_to_month year (suc months) = days_to_month year months + month_length year months

-- there is such a civil time, from 1970 on
pub record IsCivilTime (c : CivilTime) : Type 0 where
  pub year : 1970 ≤ c.year
  pub month : (1 ≤ c.month) × (c.month ≤ 12)
  pub day : (1 ≤ c.day) × (c.day ≤ month_length c.year (c.month - 1))
  pub hour : c.hour < 24
  pub minute : c.minute < 60
  pub second : c.second < 60
  pub micro : c.micro < 1000000

-- the days from the first day of 1970 to this one
abbrev pub day_number : CivilTime → ℕ
day_number c = days_to_year (c.year - 1970) + days_to_month c.year (c.month - 1) + (c.day - 1)

-- its microseconds since 1970
abbrev pub micros_of : CivilTime → ℕ
micros_of c = (((day_number c * 24 + c.hour) * 60 + c.minute) * 60 + c.second) * 1000000 + c.micro

-- the civil time of a time in microseconds since 1970
pub record IsCivilTimeOf (micros : ℕ) (c : CivilTime) : Type 0 where
  pub valid : IsCivilTime c
  pub time : micros_of c ≡ micros
