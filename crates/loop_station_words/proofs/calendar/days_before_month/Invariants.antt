use Rattle.std.proofs.Common.{◌≡◌, ◌*◌, ◌≤◌}
use Rattle.loop_station_words.specs.Calendar.{days_to_month}
use Rattle.loop_station_words.proofs.calendar.days_before_month.Given as goal

abbrev pub invariant-months : goal.invariant-months
invariant-months l = (l.days ≡ days_to_month l.fn.year l.earlier) × (l.days ≤ l.earlier * 31)
