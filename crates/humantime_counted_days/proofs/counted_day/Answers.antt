use Rattle.std.proofs.Common.{arith}
use Rattle.humantime_counted_days.proofs.CountedDays.{no_months, no_years}
use Rattle.humantime_counted_days.proofs.counted_day.Goals as goal

pub loop-year-init : goal.loop-year-init
loop-year-init c = omega (arith, no_years)

pub loop-month-init : goal.loop-month-init
loop-month-init c = grind (arith, no_months)
