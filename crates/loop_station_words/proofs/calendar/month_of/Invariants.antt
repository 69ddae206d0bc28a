use Rattle.std.proofs.Common.{◌≡◌, ◌+◌}
use Rattle.loop_station_words.specs.Calendar.{days_to_month}
use Rattle.loop_station_words.proofs.calendar.month_of.Given as goal

abbrev pub invariant-months : goal.invariant-months
invariant-months l = days_to_month l.fn.year l.month + l.left ≡ l.fn.day
