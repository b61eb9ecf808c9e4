use Rattle.std.proofs.Common.{arith}
use Rattle.std.proofs.lemmas.Grind.{common_steps}
use Rattle.humantime.specs.Laws.{IsDateOfDay}
use Rattle.humantime_std.proofs.Months.{IsFirstFrom, month_found}
use Rattle.humantime_std.proofs.times.month_start.Goals as goal

pub returns : goal.returns
returns c =
    let date = c.in_ok-date.date in
    let next = c.first_from.result in
    let from = c.first_from.ensures in
    let number = c.day_number.ensures in
    let of : IsDateOfDay c.args.day date = grind (arith, common_steps, c.in_ok-date.ensures.date) in
    let is : IsFirstFrom date next =
    record { same = from.same; month = from.month; year = from.year } in
    let result = c.day_number.result in
    let found = month_found date next c.args.day result of is number.valid number.day in
    record {
      within = found.within;
      month = found.month;
      from = found.from;
      least = found.least;
    }
