use Rattle.std.proofs.Common.{◌≡◌, ◌+◌, ◌≤◌}
use Rattle.loop_station_words.specs.Calendar.{days_to_year}
use Rattle.loop_station_words.proofs.calendar.year_of.Given as goal

abbrev pub decreases-years : goal.decreases-years
decreases-years l = l.left

abbrev pub invariant-years : goal.invariant-years
invariant-years l = (days_to_year l.years + l.left ≡ l.fn.day) × (l.years + l.left ≤ l.fn.day)
