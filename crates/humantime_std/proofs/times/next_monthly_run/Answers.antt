use Rattle.std.proofs.Common.{arith}
use Rattle.std.proofs.lemmas.Grind.{common_steps}
use Rattle.std.proofs.lemmas.Int.{ints}
use Rattle.humantime_std.proofs.NextRuns.{IsFirstMidnight, IsMonthFrom, monthly_found}
use Rattle.humantime_std.specs.Schedule.{december_9999}
use Rattle.humantime_std.proofs.times.next_monthly_run.Goals as goal

pub returns-in_err-day-clause-within : goal.returns-in_err-day-clause-within
returns-in_err-day-clause-within c =
    let least = c.in_ok-first_midnight.ensures.least december_9999 in
    grind (arith, ints, common_steps, least)

pub returns-clause-next : goal.returns-clause-next
returns-clause-next c =
    let day = c.in_ok-first_midnight.field-0 in
    let midnight = c.in_ok-first_midnight.ensures in
    let month = c.in_ok-day.ensures in
    let is : IsFirstMidnight c.args.last c.args.now day =
    record {
      after_last = midnight.after_last;
      not_before_now = midnight.not_before_now;
      least = midnight.least;
    } in
    let from : IsMonthFrom day c.in_ok-day.day =
    record { month = month.month; from = month.from; least = month.least } in
    let found = monthly_found c.args.last c.args.now day c.in_ok-day.day is from in
    found _ _ c.checked_add.result (omega (arith, ints)) c.checked_add.ensures
