use Rattle.std.proofs.Common.{arith, ◌-◌}
use Rattle.std.proofs.lemmas.Bool.Decides.{nat_tests}
use Rattle.humantime.proofs.Dates.{date_found, march_months_in_table}
use Rattle.humantime.proofs.calendar.date_of_day.Goals as goal

pub returns-clause-date : goal.returns-clause-date
returns-clause-date c =
    date_found c.args.day _ (c.loop-month.begun - 1) _ _
    (grind (arith, nat_tests, march_months_in_table)) (omega arith)
    c.march_year-year.ensures.year (omega arith) c.march_year-year.ensures.day
