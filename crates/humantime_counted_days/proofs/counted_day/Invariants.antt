use Rattle.std.proofs.Common.{◌≡◌, ◌+◌, ◌-◌}
use Rattle.humantime.specs.Calendar.{days_of_months, days_of_years}
use Rattle.humantime_counted_days.proofs.counted_day.Given as goal

abbrev pub invariant-loop-year : goal.invariant-loop-year
invariant-loop-year l = l.days ≡ days_of_years (l.year - 1970) + (l.date.day - 1)

abbrev pub invariant-loop-month : goal.invariant-loop-month
invariant-loop-month l =
    l.days ≡ days_of_years (l.date.year - 1970)
    + days_of_months l.date.year (l.month - 1) + (l.date.day - 1)
