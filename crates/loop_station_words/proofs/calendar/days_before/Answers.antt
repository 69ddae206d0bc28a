use Rattle.std.proofs.Common.{◌+◌, arith}
use Rattle.loop_station_words.proofs.Dates.{year_more, year_none, year_most}
use Rattle.loop_station_words.proofs.calendar.days_before.Goals as goal

pub years-init : goal.years-init
years-init c = (omega (arith, year_none), omega arith)

pub years-preserved : goal.years-preserved
years-preserved c =
    let n = c.years.years in (
      omega (arith, c.years.invariant.0, year_more n, c.year_length-days.ensures),
      omega (arith, c.years.invariant.1, year_most (1970 + n), c.year_length-days.ensures),
    )
