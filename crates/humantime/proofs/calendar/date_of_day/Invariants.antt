use Rattle.std.proofs.Common.{◌≡◌, ◌+◌}
use Rattle.std.specs.Prelude.{min}
use Rattle.humantime.specs.TimestampResults.{march_month}
use Rattle.humantime.proofs.calendar.date_of_day.Given as goal

-- `begun` counts the months that have begun by this day, and each iteration is counted.
abbrev pub invariant-loop-month : goal.invariant-loop-month
invariant-loop-month l =
    (l.begun ≡ min (march_month l.day_of_year + 1) l.month) × (l.turns ≡ l.initial.turns + l.month)
