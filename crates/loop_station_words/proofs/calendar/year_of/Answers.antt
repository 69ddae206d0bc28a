use Rattle.std.proofs.Common.{◌+◌, arith}
use Rattle.loop_station_words.proofs.Dates.{year_more, year_none, year_long}
use Rattle.loop_station_words.proofs.calendar.year_of.Goals as goal

pub years-init : goal.years-init
years-init c = (omega (arith, year_none), omega arith)

pub years-preserved : goal.years-preserved
years-preserved c =
    let n = c.years.years in
    let less = c.years-test.true in (
      omega (arith, c.years.invariant.0, year_more n, less, c.year_length.ensures, c.year_length-left.ensures),
      omega (arith, c.years.invariant.1, year_long (1970 + n), less, c.year_length.ensures, c.year_length-left.ensures),
    )
