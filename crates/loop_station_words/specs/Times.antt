-- What the text of a time means.
use Rattle.std.specs.Prelude.{◌<◌, ℕ, ◌+◌, ◌-◌, ◌*◌, ◌^◌, ◌==◌, ◌&&◌, nat_le, nat_lt, List, length, Option, Some, None, option_map, IfSome, if◌then◌else◌}
use Rattle.loop_script.specs.Script.{small_number}
use Rattle.loop_station_words.specs.Cuts.{cut}
use Rattle.loop_station_words.specs.Calendar.{days_to_month, days_to_year, month_length}

-- the number that exactly so many digits write
unfoldable pub sized : ℕ → List ℕ → Option ℕ
sized count word = if length word == count then small_number word else None

-- the number of such a day, counted from the first day of 1970
abbrev pub day_of : Option ℕ → Option ℕ → Option ℕ → Option ℕ
day_of (Some year) (Some month) (Some day) =
    if nat_le 1970 year && nat_le year 9999 && nat_le 1 month && nat_le month 12 && nat_le 1 day
    && nat_le day (month_length year (month - 1))
    then Some (days_to_year (year - 1970) + days_to_month year (month - 1) + (day - 1)) else None
day_of _ _ _ = None

-- `YYYY-MM-DD`, cut after the year
abbrev pub after_year : List ℕ → Option (List ℕ × List ℕ) → Option ℕ
after_year year (Some rest) = day_of (sized 4 year) (sized 2 rest.0) (sized 2 rest.1)
after_year year None = None

abbrev pub year_cut : Option (List ℕ × List ℕ) → Option ℕ
year_cut (Some date) = after_year date.0 (cut 45 date.1)
year_cut None = None

-- the number of the day that `YYYY-MM-DD` names
unfoldable pub day_said : List ℕ → Option ℕ
day_said date = year_cut (cut 45 date)

-- the microseconds that 1 to 6 decimals of a second write
unfoldable pub decimals_said : List ℕ → Option ℕ
decimals_said word =
    if nat_le (length word) 6 then option_map (λ n. n * 10 ^ (6 - length word)) (small_number word) else None

-- the microseconds of whole seconds and a part
abbrev pub micros_of_second : Option ℕ → Option ℕ → Option ℕ
micros_of_second (Some second) (Some part) = if nat_lt second 60 then Some (second * 1000000 + part) else None
micros_of_second _ _ = None

abbrev pub seconds_cut : List ℕ → Option (List ℕ × List ℕ) → Option ℕ
seconds_cut text None = micros_of_second (sized 2 text) (Some 0)
seconds_cut text (Some seconds) = micros_of_second (sized 2 seconds.0) (decimals_said seconds.1)

-- the microseconds of `SS`, or of `SS.` with decimals
unfoldable pub seconds_said : List ℕ → Option ℕ
seconds_said text = seconds_cut text (cut 46 text)

-- the microseconds of hours and minutes
abbrev pub minutes_of : Option ℕ → Option ℕ → Option ℕ
minutes_of (Some hour) (Some minute) =
    if nat_lt hour 24 && nat_lt minute 60 then Some ((hour * 60 + minute) * 60000000) else None
minutes_of _ _ = None

abbrev pub offset_cut : Option (List ℕ × List ℕ) → Option ℕ
offset_cut (Some offset) = minutes_of (sized 2 offset.0) (sized 2 offset.1)
offset_cut None = None

-- the microseconds of `HH:MM`
unfoldable pub offset_said : List ℕ → Option ℕ
offset_said text = offset_cut (cut 58 text)

-- the sum of both
abbrev pub sum_of : Option ℕ → Option ℕ → Option ℕ
sum_of (Some a) (Some b) = Some (a + b)
sum_of _ _ = None

abbrev pub minutes_cut : List ℕ → Option (List ℕ × List ℕ) → Option ℕ
minutes_cut hour (Some rest) = sum_of (minutes_of (sized 2 hour) (sized 2 rest.0)) (seconds_said rest.1)
minutes_cut hour None = None

abbrev pub clock_cut : Option (List ℕ × List ℕ) → Option ℕ
clock_cut (Some clock) = minutes_cut clock.0 (cut 58 clock.1)
clock_cut None = None

-- the microseconds of a time of day, `HH:MM:SS` or with decimals
unfoldable pub clock_said : List ℕ → Option ℕ
clock_said text = clock_cut (cut 58 text)

-- the time of a day and a time of day where clocks are so much ahead of UTC
abbrev pub east : Option ℕ → Option ℕ → Option ℕ → Option ℕ
east (Some day) (Some clock) (Some offset) =
    if nat_le offset (day * 86400000000 + clock) then Some (day * 86400000000 + clock - offset) else None
east _ _ _ = None

-- the time of a day and a time of day where clocks are so much behind UTC
abbrev pub west : Option ℕ → Option ℕ → Option ℕ → Option ℕ
west (Some day) (Some clock) (Some offset) = Some (day * 86400000000 + clock + offset)
west _ _ _ = None

-- a time of day in UTC, with nothing after the `Z`
abbrev pub utc : Option ℕ → List ℕ × List ℕ → Option ℕ
utc day clock = if length clock.1 == 0 then east day (clock_said clock.0) (Some 0) else None

abbrev pub minus_cut : Option ℕ → Option (List ℕ × List ℕ) → Option ℕ
minus_cut day (Some clock) = west day (clock_said clock.0) (offset_said clock.1)
minus_cut day None = None

abbrev pub plus_cut : Option ℕ → List ℕ → Option (List ℕ × List ℕ) → Option ℕ
plus_cut day text (Some clock) = east day (clock_said clock.0) (offset_said clock.1)
plus_cut day text None = minus_cut day (cut 45 text)

abbrev pub z_cut : Option ℕ → List ℕ → Option (List ℕ × List ℕ) → Option ℕ
z_cut day text (Some clock) = utc day clock
z_cut day text None = plus_cut day text (cut 43 text)

-- the time of a day and of the text after the `T`: a time of day, and `Z`, `+HH:MM` or `-HH:MM`
unfoldable pub zoned : Option ℕ → List ℕ → Option ℕ
zoned day text = z_cut day text (cut 90 text)

abbrev pub t_cut : Option (List ℕ × List ℕ) → Option ℕ
t_cut (Some time) = zoned (day_said time.0) time.1
t_cut None = None

-- the time in microseconds since 1970 that a text says, if it is one
abbrev pub time_said : List ℕ → Option ℕ
time_said text = t_cut (cut 84 text)

-- it is below this, if there is one
abbrev pub below : ℕ → Option ℕ → Type 0
below most number = IfSome number (λ n. n < most)
