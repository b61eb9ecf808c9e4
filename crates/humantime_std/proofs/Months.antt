-- The first of the month that begins on a date, or after it.
use Rattle.humantime.specs.Calendar.{IsDate, day_of, is_valid}
use Rattle.humantime.specs.Laws.{IsDateOfDay}
use Rattle.std.proofs.Common.{◌≡◌, ◌↔◌, ℕ, ◌+◌, ◌*◌, ◌<◌, ◌≤◌, IsTrue, arith, inl, inr, refl, sym, subst, Option, None, Some, IsSome, IfSome}
use Rattle.std.proofs.lemmas.Bool.{cases_lt}
use Rattle.std.proofs.lemmas.Bool.Decides.{nat_tests}
use Rattle.std.specs.Int.{IsInRange}
use Rattle.humantime.proofs.Dates.{before_later, valid_from_test}
use Rattle.humantime.proofs.Dates.{days_of_years_closed, days_of_months_closed}
use Rattle.humantime.specs.declared.calendar.Date.{Date}
use Rattle.humantime_std.specs.Schedule.{BeginsMonth, december_9999}

-- ---- dates in the order of a number

abbrev key : Date → ℕ
key d = d.year * 512 + d.month * 32 + d.day

record InRange (d : Date) : Type 0 where
  year : IsInRange 1970 9999 d.year
  month : IsInRange 1 12 d.month
  day : IsInRange 1 31 d.day

in_range : (d : Date) → IsDate d → InRange d
in_range d valid =
    let within = valid_from_test d.year d.month d.day valid in
    record { year = within.0; month = within.1; day = grind (arith, nat_tests, within.2) }

earlier : (a b : Date) → IsDate a → IsDate b → key a < key b → day_of a < day_of b
earlier a b first second less =
    let a_in = in_range a first in
    let b_in = in_range b second in
    let later = before_later a first in
    elim (cases_lt a.year b.year) [
      | inl year ↦ omega (arith, later.0 b.year year)
      | inr year ↦
          let same : b.year ≡ a.year = omega arith in
          grind (arith, same, later.1 b.month, (cases_lt a.month b.month))
    ]

not_later : (a b : Date) → IsDate a → IsDate b → day_of a ≤ day_of b → key a ≤ key b
not_later a b first second fits = elim (cases_lt (key b) (key a)) [
  | inl less ↦ absurd (omega (arith, earlier b a second first less))
  | inr more ↦ more
]

in_order : (a b : Date) → IsDate a → IsDate b → key a ≤ key b → day_of a ≤ day_of b
in_order a b first second fits = elim (cases_lt (key a) (key b)) [
  | inl less ↦ omega (arith, earlier a b first second less)
  | inr more ↦
      let a_in = in_range a first in
      let b_in = in_range b second in
      let year : a.year ≡ b.year = omega arith in
      let month : a.month ≡ b.month = omega arith in
      let day : a.day ≡ b.day = omega arith in
      grind (arith, year, month, day)
]

-- ---- the last month

abbrev december : Date
december = record { year = 9999; month = 12; day = 1 }

december_is : day_of december ≡ december_9999
december_is =
    let years = days_of_years_closed 9999 (omega arith) in
    let months = days_of_months_closed 9999 12 (omega arith) (omega arith) in
    omega (arith, years, months)

-- No month begins later.
pub last_month_begins : (n : ℕ) → BeginsMonth n → n ≤ december_9999
last_month_begins n begins =
    let date = begins.date in
    let within = in_range date begins.exists in
    let fits = in_order date december begins.exists refl (omega arith) in
    omega (arith, december_is, begins.counted, fits)

-- ---- the first of a month from a date on

pub record IsFirstFrom (date next : Date) : Type 0 where
  pub same : date.day ≡ 1 → next ≡ date
  pub month : 1 < date.day → date.month < 12
      → next ≡ record { year = date.year; month = date.month + 1; day = 1 }
  pub year : 1 < date.day → date.month ≡ 12
      → next ≡ record { year = date.year + 1; month = 1; day = 1 }

-- It is a first, is not before the date, and is not after another first for which this holds.
record IsLeast (date next : Date) : Type 0 where
  first : next.day ≡ 1
  reached : key date ≤ key next
  least : (d : Date) → InRange d → d.day ≡ 1 → key date ≤ key d → key next ≤ key d

is_least : (date next : Date) → InRange date → IsFirstFrom date next → IsLeast date next
is_least date next within is = elim (cases_lt 1 date.day) [
  | inl later ↦ elim (cases_lt date.month 12) [
    | inl early ↦ rw (is.month later early) (record {
      first = refl;
      reached = omega arith;
      least = λ d x one fits. omega arith;
    })
    | inr late ↦ rw (is.year later (omega arith)) (record {
      first = refl;
      reached = omega arith;
      least = λ d x one fits. omega arith;
    })
  ]
  | inr first ↦
      let one : date.day ≡ 1 = omega arith in
      rw (is.same one) (record {
        first = one;
        reached = omega arith;
        least = λ d x one fits. fits;
      })
]

first_valid : (y m : ℕ) → IsInRange 1970 9999 y → IsInRange 1 12 m → IsTrue (is_valid y m 1)
first_valid y m year month = grind (arith, nat_tests)

next_valid : (date next : Date) → IsDate date → key date ≤ key december → IsFirstFrom date next
    → IsDate next
next_valid date next valid fits is =
    let within = in_range date valid in
    elim (cases_lt 1 date.day) [
      | inl later ↦ elim (cases_lt date.month 12) [
        | inl early ↦
            let month : IsInRange 1 12 (date.month + 1) = (omega arith, omega arith) in
            rw (is.month later early) (first_valid date.year (date.month + 1) within.year month)
        | inr late ↦
            let year : IsInRange 1970 9999 (date.year + 1) = (omega arith, omega arith) in
            let month : IsInRange 1 12 1 = (omega arith, omega arith) in
            rw (is.year later (omega arith)) (first_valid (date.year + 1) 1 year month)
      ]
      | inr first ↦ rw (is.same (omega arith)) valid
    ]

module _ (date next : Date) (valid : IsDate date) (is : IsFirstFrom date next) where
  exists : IsDate next ↔ (day_of date ≤ december_9999)
  exists =
      let least = is_least date next (in_range date valid) is in (
        λ after.
            let within = in_range next after in
            let reached = in_order date next valid after least.reached in
            let fits = in_order next december after refl (omega (arith, least.first)) in
            omega (arith, december_is, reached, fits),
        λ fits.
            let early = not_later date december valid refl (omega (arith, december_is)) in
            next_valid date next valid early is,
      )

  least_day : (n : ℕ) → IsDate next → BeginsMonth n → day_of date ≤ n → day_of next ≤ n
  least_day n after begins fits =
      let other = begins.date in
      let within = in_range other begins.exists in
      let later = not_later date other valid begins.exists (omega (arith, begins.counted)) in
      let least = (is_least date next (in_range date valid) is).least in
      let order = in_order next other after begins.exists in
      omega (arith, begins.counted, order (least other within begins.first later))

-- What the day of that first promises, if there is one.
pub record IsFound (day : ℕ) (r : Option ℕ) : Type 0 where
  pub within : IsSome r ↔ (day ≤ december_9999)
  pub month : IfSome r BeginsMonth
  pub from : IfSome r (λ first. day ≤ first)
  pub least : (n : ℕ) → BeginsMonth n → day ≤ n → IfSome r (λ first. first ≤ n)

pub month_found : (date next : Date) (day : ℕ) (r : Option ℕ) → IsDateOfDay day date
    → IsFirstFrom date next → IsSome r ↔ IsDate next → IfSome r (λ n. n ≡ day_of next)
    → IsFound day r
month_found date next day None of is some found = record {
  within = grind (arith, exists date next of.0 is, some, of.1);
  month = tt;
  from = tt;
  least = λ n begins fits. tt;
}
month_found date next day (Some n) of is some found =
    let after = some.0 refl in
    let least = is_least date next (in_range date of.0) is in
    let begins : BeginsMonth (day_of next) =
    record { date = next; exists = after; counted = refl; first = least.first } in
    record {
      within = grind (arith, exists date next of.0 is, some, of.1);
      month = subst BeginsMonth (sym found) begins;
      from = omega (arith, in_order date next of.0 after least.reached, found, of.1);
      least = λ m begins fits.
          let early = least_day date next of.0 is m after begins (omega (arith, of.1)) in
          omega (arith, early, found);
    }
