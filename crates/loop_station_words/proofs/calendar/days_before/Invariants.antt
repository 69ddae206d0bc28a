use Rattle.std.proofs.Common.{◌≡◌, ◌*◌, ◌≤◌}
use Rattle.loop_station_words.specs.Calendar.{days_to_year}
use Rattle.loop_station_words.proofs.calendar.days_before.Given as goal

abbrev pub invariant-years : goal.invariant-years
invariant-years l = (l.days ≡ days_to_year l.years) × (l.days ≤ l.years * 366)
