-- Each day has exactly one date, which is computed without a loop over years.
use Rattle.humantime.specs.Calendar.{days_in_year, days_in_month, days_of_years, days_of_months, is_valid, IsDate, day_of}
use Rattle.humantime.specs.Laws.{IsDateOfDay, ExactlyOne}
use Rattle.humantime.specs.TimestampResults.{march_days, march_months, march_year, march_month, march_date, date_of}
use Rattle.std.proofs.Common.{◌≡◌, ℕ, zero, suc, ◌+◌, ◌-◌, ◌*◌, ◌<◌, ◌≤◌, refl, arith, IsTrue, inl, inr, nat_lt, if◌then◌else◌, [], ◌∷◌, slice_index_or, min, ltb-true, ltb-false}
use Rattle.std.proofs.lemmas.Bool.{cases_Bool, cases_eq}
use Rattle.std.proofs.lemmas.Bool.Decides.{nat_tests}
use Rattle.std.proofs.lemmas.Grind.{common_steps}
use Rattle.std.specs.Int.{IsInRange}
use Rattle.humantime.specs.declared.calendar.Date.{Date}

-- ==== The days of years and of months in closed form, and the ranges of the fields of a date.

-- The ranges of the fields of a date that exists.
pub valid_from_test : (y m d : ℕ) → IsTrue (is_valid y m d)
    → IsInRange 1970 9999 y × IsInRange 1 12 m × IsInRange 1 (days_in_month y m) d
valid_from_test y m d valid = grind (arith, nat_tests)

pub days_in_year_bound : (y : ℕ) → days_in_year y ≤ 366
days_in_year_bound y = grind (arith, nat_tests)

-- A year that begins in March ends in February of the next calendar year.
pub march_days_next : (y : ℕ) → 1601 ≤ y
    → march_days (y - 1600) ≡ march_days (y - 1601) + days_in_year y
march_days_next y late = grind (arith, nat_tests)

-- There are 134,774 days from 1601-01-01 to 1970-01-01.
years_closed : (n : ℕ) → days_of_years n + 134_774 ≡ march_days (1970 + n - 1601)
unfolding days_of_years
years_closed zero = refl
years_closed (suc n) = omega (arith, years_closed n, march_days_next (1970 + n) (omega arith))

pub days_of_years_closed : (y : ℕ) → 1970 ≤ y
    → days_of_years (y - 1970) + 134_774 ≡ march_days (y - 1601)
days_of_years_closed y late = omega (arith, years_closed (y - 1970))

-- The days of January and February, and of the months from March on.
pub days_of_first_months : (y k : ℕ) → k < 2 → days_of_months y k ≡ 31 * k
unfolding days_of_months
days_of_first_months y k few = grind arith

months_closed : (y k : ℕ) → k ≤ 10
    → days_of_months y (k + 2) + 306 ≡ march_months k + days_in_year y
unfolding days_of_months
months_closed y k few = grind (arith, nat_tests)

pub days_of_months_closed : (y m : ℕ) → 3 ≤ m → m ≤ 13
    → days_of_months y (m - 1) + 306 ≡ march_months (m - 3) + days_in_year y
days_of_months_closed y m late few =
    let same : m - 3 + 2 ≡ m - 1 = omega arith in rw same at (months_closed y (m - 3) (omega arith))

-- The days of the first months, by a table and the leap day.
pub days_in_table : (y k : ℕ) → k < 12 → days_of_months y k
    ≡ slice_index_or (0 ∷ 31 ∷ 59 ∷ 90 ∷ 120 ∷ 151 ∷ 181 ∷ 212 ∷ 243 ∷ 273 ∷ 304 ∷ 334 ∷ []) k 0
    + (if nat_lt 1 k then days_in_year y - 365 else 0)
unfolding days_of_months
days_in_table y k few = grind (arith, nat_tests)

-- The days of the months from March on, by a table.
pub march_months_in_table : (k : ℕ) → k < 12 → march_months k
    ≡ slice_index_or (0 ∷ 31 ∷ 61 ∷ 92 ∷ 122 ∷ 153 ∷ 184 ∷ 214 ∷ 245 ∷ 275 ∷ 306 ∷ 337 ∷ []) k 0
march_months_in_table k few = grind (arith, nat_tests)

-- The lemmas about the days of the years and months before a date.
pub ruleset days_counted =
    (days_of_years_closed, days_of_first_months, days_of_months_closed, days_in_year_bound)

-- ==== The date that is computed with years from March on is the date of the day.

-- The months March to December.
early : (n y k d : ℕ) → n ≤ 2_932_896 → k < 10 → march_months k + d < march_months (k + 1)
    → march_days y + march_months k + d ≡ n + 135_080
    → IsDateOfDay n (record { year = 1600 + y; month = k + 3; day = d + 1 })
early n y k d few month within sum =
    grind (
      arith,
      common_steps,
      nat_tests,
      (days_of_months_closed (1600 + y) (k + 3)),
      days_of_years_closed (1600 + y),
      march_days_next (1600 + y),
    )

-- The months January and February.
late : (n y k d : ℕ) → n ≤ 2_932_896 → 10 ≤ k → march_months k + d < march_months (k + 1)
    → march_months k + d < days_in_year (1601 + y)
    → march_days y + march_months k + d ≡ n + 135_080
    → IsDateOfDay n (record { year = 1601 + y; month = k - 9; day = d + 1 })
late n y k d few month within ends sum = grind (
  arith,
  nat_tests,
  (days_in_year_bound (1601 + y)),
  (days_of_first_months (1601 + y) (k - 10)),
  days_of_years_closed (1601 + y),
)

-- The date of the day, in the year that is computed.
pub date_found : (n y k d : ℕ) (x : Date) → x ≡ march_date y k (d - march_months k) → n ≤ 2_932_896
    → y ≡ march_year (n + 135_080)
    → k ≡ min (march_month d) 11 → march_days y + d ≡ n + 135_080 → IsDateOfDay n x
date_found n y k d x is few year month sum =
    let within : d < days_in_year (1601 + y) =
    omega (arith, march_days_next (1601 + y) (omega arith)) in
    elim (cases_Bool (nat_lt k 10)) [
      | inl h ↦ rw (is, h) (early n y k (d - march_months k) few (ltb-true k 10 h) (omega arith) (omega arith))
      | inr h ↦ rw (is, h) (late n y k (d - march_months k) few (ltb-false k 10 h) (omega arith)
          (omega arith) (omega arith))
    ]

pub date_of_is : (n : ℕ) → n ≤ 2_932_896 → IsDateOfDay n (date_of n)
unfolding date_of
date_of_is n few =
    let y = march_year (n + 135_080) in
    date_found n y _ (n + 135_080 - march_days y) _ refl few refl
    (omega (arith, march_days_next (1601 + y) (omega arith))) (omega arith)

-- ==== Each day number has one date.

-- The number of days is monotonic in the number of months.
months_grow : (y m n : ℕ) → m ≤ n → days_of_months y m ≤ days_of_months y n
unfolding days_of_months
months_grow y m zero few = grind arith
months_grow y m (suc n) few = grind (arith, (months_grow y m n), (cases_eq m (suc n)))

-- The day of a date is before the days of each later month and year.
before_month : (y m d : ℕ) → IsInRange 1 12 m → IsInRange 1 (days_in_month y m) d → (later : ℕ)
    → m < later
    → days_of_months y (m - 1) + (d - 1) < days_of_months y (later - 1)
unfolding days_of_months
before_month y m d month day later less = grind (arith, (months_grow y m (later - 1)))

pub before_later : (d : Date) → IsDate d
    → ((later : ℕ) → d.year < later → day_of d < days_of_years (later - 1970))
    × ((later : ℕ) → d.month < later
    → days_of_months d.year (d.month - 1) + (d.day - 1) < days_of_months d.year (later - 1))
before_later d valid =
    let within = valid_from_test d.year d.month d.day valid in
    let months = before_month d.year d.month d.day within.1 within.2 in
    let next = march_days_next d.year in
    ((λ later less. grind (arith, within, (months 13), (days_of_months_closed d.year 13), days_of_years_closed, next)), months)

pub one_date : (day : ℕ) → day ≤ 2_932_896 → ExactlyOne (IsDateOfDay day)
one_date day few =
    let found = date_of_is day few in (
      date_of day,
      found,
      λ other is. grind
          (arith, valid_from_test, (before_later other is.0), (before_later (date_of day) found.0)),
    )

-- No date has a later day than the last one.
pub day_at_most : (d : Date) → IsDate d → day_of d ≤ 2_932_896
day_at_most d valid =
    let within = valid_from_test d.year d.month d.day valid in
    grind (arith, within, ((before_later d valid).0 10_000), (days_of_years_closed 10_000))
