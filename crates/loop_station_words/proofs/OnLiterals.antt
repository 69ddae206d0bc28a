-- What the rows of src/laws.rt unfold, to compute what a given line or text says.
use Rattle.std.specs.Prelude.{⊤}
use Rattle.loop_station_words.specs.Calendar.{days_to_month, days_to_year, is_leap}
use Rattle.loop_station_words.specs.Cuts.{cut}
use Rattle.loop_station_words.specs.Orders.{after_said, cancel_said, after_seconds, event_said, first_word, from_said, keep_said, plain_said, release_said, save_said, timed_said, times_in, times_kept}
use Rattle.loop_station_words.specs.Times.{clock_said, day_said, decimals_said, offset_said, seconds_said, sized, zoned}

unfoldable pub orders_on_literals : ⊤
unfolding cut after_said cancel_said after_seconds event_said first_word from_said keep_said plain_said release_said save_said timed_said times_in times_kept
orders_on_literals = tt

unfoldable pub times_on_literals : ⊤
unfolding cut days_to_month days_to_year is_leap clock_said day_said decimals_said offset_said seconds_said sized zoned
times_on_literals = tt
