use Rattle.std.proofs.Common.{◌≡◌, ◌+◌, arith, subst}
use Rattle.loop_station_words.specs.Calendar.{days_to_month}
use Rattle.loop_station_words.proofs.Dates.{month_more, month_none, twelve}
use Rattle.loop_station_words.proofs.calendar.month_of.Goals as goal

pub months-init : goal.months-init
months-init c = omega (arith, month_none c.args.year)

pub months-preserved : goal.months-preserved
months-preserved c =
    omega (arith, c.months.invariant, month_more c.args.year c.months.month, c.month_length-days.ensures, c.if-left-days.false)

pub unreachable-requires : goal.unreachable-requires
unreachable-requires c =
    let full : c.months.month ≡ 12 = omega arith in
    let all = subst (λ m. days_to_month c.args.year m + c.months.left ≡ c.args.day) full c.months.invariant in
    omega (arith, all, twelve c.args.year, c.requires)
