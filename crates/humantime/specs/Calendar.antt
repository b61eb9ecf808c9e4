-- Dates and days, and the count of loop turns.
use Rattle.std.specs.Prelude.{ℕ, zero, suc, ◌+◌, ◌-◌, ◌%◌, Bool, ◌&&◌, ◌||◌, ◌==◌, not, if◌then◌else◌, IsTrue}
use Rattle.std.specs.Int.{is_in_range}
use Rattle.humantime.specs.declared.calendar.Date.{Date}
use Rattle.humantime.specs.declared.calendar.Chain.{Chain, Start, Next'}

-- ==== The proleptic Gregorian calendar from 1970 to 9999. Years and months are counted one by one.

-- Tests whether a year is a leap year: a multiple of 4, but not of 100 unless it is also a multiple
-- of 400.
abbrev pub is_leap_year : ℕ → Bool
is_leap_year y = (y % 4 == 0) && (not (y % 100 == 0) || (y % 400 == 0))

-- Returns the number of days in a year, 365 or 366.
abbrev pub days_in_year : ℕ → ℕ
days_in_year y = if is_leap_year y then 366 else 365

-- Returns the number of days in month `m` (1 to 12) of year `y`, 28 to 31.
abbrev pub days_in_month : ℕ → ℕ → ℕ
days_in_month y m =
    if m == 2 then (if is_leap_year y then 29 else 28)
    else (if (m == 4) || (m == 6) || (m == 9) || (m == 11) then 30 else 31)

-- Returns the number of days in the `n` years from 1970 on.
unfoldable pub days_of_years : ℕ → ℕ
days_of_years zero = 0
days_of_years (suc n) = days_of_years n + days_in_year (1970 + n)

-- Returns the number of days in the first `n` months of year `y`.
unfoldable pub days_of_months : ℕ → ℕ → ℕ
days_of_months y zero = 0
days_of_months y (suc n) = days_of_months y n + days_in_month y (suc n)

-- Tests whether a date exists: the year is 1970 to 9999, the month 1 to 12, and the day 1 to the
-- length of the month.
abbrev pub is_valid : ℕ → ℕ → ℕ → Bool
is_valid y m d =
    is_in_range 1970 9999 y && is_in_range 1 12 m && is_in_range 1 (days_in_month y m) d

-- The date exists, and its year is 1970 to 9999.
abbrev pub IsDate : Date → Type 0
IsDate d = IsTrue (is_valid d.year d.month d.day)

-- Returns the number of days from 1970-01-01 to a date.
abbrev pub day_of : Date → ℕ
day_of d = days_of_years (d.year - 1970) + days_of_months d.year (d.month - 1) + (d.day - 1)

-- ==== The number of iterations that a chain of turns denotes.

-- Returns the number of `Next` links in a chain.
abbrev pub turns_of : Chain → ℕ
turns_of Start = 0
turns_of (Next' outer inner before) = turns_of before + 1
