use Rattle.std.proofs.Common.{arith}
use Rattle.loop_station_words.proofs.Dates.{month_more, month_none, month_most}
use Rattle.loop_station_words.proofs.calendar.days_before_month.Goals as goal

pub months-init : goal.months-init
months-init c = (omega (arith, month_none c.args.year), omega arith)

pub months-preserved : goal.months-preserved
months-preserved c =
    let n = c.months.earlier in (
      omega (arith, c.months.invariant.0, month_more c.args.year n, c.month_length-days.ensures),
      omega (arith, c.months.invariant.1, month_most c.args.year n, c.month_length-days.ensures),
    )
