-- The days of years and of months, with one more year or month.
use Rattle.std.proofs.Common.{◌≡◌, ℕ, zero, suc, ◌+◌, ◌-◌, ◌*◌, ◌≤◌, ap, arith, refl}
use Rattle.std.proofs.lemmas.Bool.Decides.{nat_tests}
use Rattle.humantime.specs.Calendar.{days_in_month, days_in_year, days_of_months, days_of_years}
use Rattle.humantime.proofs.Dates.{days_in_year_bound}

pub no_years : days_of_years 0 ≡ 0
unfolding days_of_years
no_years = refl

pub year_more : (y : ℕ) → 1970 ≤ y
    → days_of_years (y + 1 - 1970) ≡ days_of_years (y - 1970) + days_in_year y
unfolding days_of_years
year_more y late =
    let next : y + 1 - 1970 ≡ suc (y - 1970) = omega arith in
    let year : 1970 + (y - 1970) ≡ y = omega arith in
    rw next (ap (λ k. days_of_years (y - 1970) + days_in_year k) year)

pub years_bound : (n : ℕ) → days_of_years n ≤ 366 * n
unfolding days_of_years
years_bound zero = omega arith
years_bound (suc n) = omega (arith, years_bound n, days_in_year_bound (1970 + n))

pub no_months : (y : ℕ) → days_of_months y 0 ≡ 0
unfolding days_of_months
no_months y = refl

pub month_more : (y m : ℕ) → 1 ≤ m
    → days_of_months y (m + 1 - 1) ≡ days_of_months y (m - 1) + days_in_month y m
unfolding days_of_months
month_more y m some =
    let next : m + 1 - 1 ≡ suc (m - 1) = omega arith in
    let month : suc (m - 1) ≡ m = omega arith in
    rw next (ap (λ k. days_of_months y (m - 1) + days_in_month y k) month)

pub month_bound : (y m : ℕ) → days_in_month y m ≤ 31
month_bound y m = grind (arith, nat_tests)

pub months_bound : (y n : ℕ) → days_of_months y n ≤ 31 * n
unfolding days_of_months
months_bound y zero = omega arith
months_bound y (suc n) = omega (arith, months_bound y n, month_bound y (suc n))

pub ruleset counted = (year_more, years_bound, month_more, month_bound, months_bound)
