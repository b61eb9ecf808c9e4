-- The results of the calls on dates and timestamps.
use Rattle.std.specs.Prelude.{ℕ, ◌+◌, ◌-◌, ◌*◌, ◌/◌, ◌%◌, nat_lt, if◌then◌else◌, ◌≡◌, ◌↔◌, zero, suc, ◌^◌, ℤ, pos, negsuc, ◌==◌, List, [], ◌∷◌, take, drop, Option, Some, None, Result, Ok, Err, IsOk}
use Rattle.std.specs.declared.fmt.Formatter.{Formatter}
use Rattle.std.specs.declared.fmt.Error.{Error}
use Rattle.std.specs.Fmt.{DisplaysOnOk, DisplaysStyledOnOk, fmt_error}
use Rattle.humantime.specs.declared.calendar.Date.{Date}
use Rattle.humantime.specs.declared.date.error.TimestampError.{TimestampError}
use Rattle.humantime.specs.declared.date.print.Precision.{Precision}
use Rattle.humantime.specs.declared.date.print.Precision.TheVariants.{Seconds, Millis, Micros, Nanos}
use Rattle.humantime.specs.Values.{nanos_per_second, seconds_per_day}
use Rattle.humantime.specs.Timestamps.{date_time_of, fraction_part, weak_checks, strict_checks, first_failed, digit, Letter_T, Letter_Z, Fields, fields_text, fraction_nanos, seconds_of, IsWeakMoment, IsStrictMoment, MomentToPrint, year_10000, places_of, IsPrintable}

-- ==== The date `n` days after 1970-01-01, computed with years that begin on 1 March and are
-- counted from 1600, so that a leap day is the last day of its year. The text that `Display` of
-- both timestamps writes is defined with this date. The definition need not be trusted: a law
-- states that this text is the printed one.

-- The number of days before year `n`.
abbrev pub march_days : ℕ → ℕ
march_days n = n * 365 + n / 4 - n / 100 + n / 400

-- The number of days in a year before month `k`, where March is month 0.
abbrev pub march_months : ℕ → ℕ
march_months k = (153 * k + 2) / 5

-- The year of the day `n` days after 1600-03-01. Four centuries have 146,097 days, and four years
-- of a century have 1,461.
abbrev pub march_year : ℕ → ℕ
march_year n =
    let century = (4 * n + 3) / 146_097 in
    let day = (4 * n + 3) % 146_097 / 4 in
    100 * century + (4 * day + 3) / 1461

-- The month of a day of the year, where both are counted from 0.
abbrev pub march_month : ℕ → ℕ
march_month day = (5 * day + 2) / 153

-- The date of a day, counted from 0, of month `k` of year `n`.
abbrev pub march_date : ℕ → ℕ → ℕ → Date
march_date n k day =
    if nat_lt k 10
    then record { year = 1600 + n; month = k + 3; day = day + 1 }
    else record { year = 1601 + n; month = k - 9; day = day + 1 }

-- The date `n` days after 1970-01-01.
unfoldable pub date_of : ℕ → Date
date_of n =
    let year = march_year (n + 135_080) in
    let day = n + 135_080 - march_days year in
    march_date year (march_month day) (day - march_months (march_month day))

-- ==== The result of parsing a timestamp, and the printed text of a moment, each as one function.

-- The moment of the date, time and fraction at their positions in the text, in nanoseconds.
abbrev pub moment_at : List ℕ → ℕ
moment_at bytes =
    let x = date_time_of bytes in
    seconds_of x.date x.hour x.minute x.second * nanos_per_second
    + fraction_nanos (drop 1 (fraction_part bytes))

-- The moment `t`, or the error of the check that failed.
abbrev pub moment_or_error : Option TimestampError → ℕ → Result ℤ TimestampError
moment_or_error None t = Ok (pos t)
moment_or_error (Some e) t = Err e

-- The result of parsing in the weak format: the moment, or the error of the first check that fails.
unfoldable pub weak_answer : List ℕ → Result ℤ TimestampError
weak_answer bytes = moment_or_error (first_failed (weak_checks bytes)) (moment_at bytes)

-- The result of parsing in the strict format.
unfoldable pub strict_answer : List ℕ → Result ℤ TimestampError
strict_answer bytes = moment_or_error (first_failed (strict_checks bytes)) (moment_at bytes)

-- The result of parsing in the weak format is `Ok(t)` if and only if the text represents `t` in
-- that format, and `Err(e)` if and only if `e` is the error of the first check that fails.
pub record IsWeakAnswer (bytes : List ℕ) (r : Result ℤ TimestampError) : Type 0 where
  pub value : (t : ℤ) → (r ≡ Ok t) ↔ IsWeakMoment bytes t
  pub error : (e : TimestampError) → (r ≡ Err e) ↔ (first_failed (weak_checks bytes) ≡ Some e)
  pub answer : r ≡ weak_answer bytes

-- The same for the strict format.
pub record IsStrictAnswer (bytes : List ℕ) (r : Result ℤ TimestampError) : Type 0 where
  pub value : (t : ℤ) → (r ≡ Ok t) ↔ IsStrictMoment bytes t
  pub error : (e : TimestampError) → (r ≡ Err e) ↔ (first_failed (strict_checks bytes) ≡ Some e)
  pub answer : r ≡ strict_answer bytes

-- The number of fraction digits of a precision.
abbrev pub places : Precision → ℕ
places Seconds = 0
places Millis = 3
places Micros = 6
places Nanos = 9

-- The precision with `k` fraction digits.
abbrev pub precision_of : ℕ → Precision
precision_of k =
    if k == 0 then Seconds else (if k == 3 then Millis else (if k == 6 then Micros else Nanos))

-- The last `k` decimal digits of a number.
abbrev pub last_digits : ℕ → ℕ → List ℕ
last_digits zero n = []
last_digits (suc k) n = digit (n / 10 ^ k % 10) ∷ last_digits k n

-- The fields that are printed for a date, a time in seconds after midnight and its nanoseconds,
-- with `k` fraction digits.
abbrev pub printed_fields : Date → ℕ → ℕ → ℕ → Fields
printed_fields date time nanos k = record {
  date = date;
  separator = Letter_T;
  hour = time / 3_600;
  minute = time / 60 % 60;
  second = time % 60;
  fraction = if k == 0 then None else Some (take k (last_digits 9 nanos));
  zone = Letter_Z;
}

-- The fields that are printed for a moment in 1970 or later, with `k` fraction digits.
abbrev pub fields_at : ℕ → ℕ → Fields
fields_at t k =
    let second = t / nanos_per_second in
    printed_fields (date_of (second / seconds_per_day)) (second % seconds_per_day)
    (t % nanos_per_second) k

-- The printed text of a moment with `k` fraction digits, or `None` outside 1970 to 9999.
unfoldable pub moment_text : ℤ → ℕ → Option (List ℕ)
moment_text (pos t) k = if nat_lt t year_10000 then Some (fields_text (fields_at t k)) else None
moment_text (negsuc t) k = None

-- The printed text of a timestamp.
abbrev pub printed_text : MomentToPrint → Option (List ℕ)
printed_text x = moment_text x.moment x.places

-- The printed text of a moment with the default number of digits.
abbrev pub shortest_text : ℤ → Option (List ℕ)
shortest_text t = moment_text t (places_of t)

-- The effect of `Display` of a timestamp. If it returns `Ok`, the moment is in 1970 to 9999, and
-- its text has been written, whatever the options of the formatter are. For a moment outside these
-- years, it returns `fmt::Error` and leaves the formatter unchanged.
pub record DisplaysMoment {W : Type 0} (gives : W → List ℕ → W
    → Type 0) (old : Formatter W) (result : Result (Unit {0}) Error) (moment : ℤ)
    (text : Option (List ℕ)) (new : Formatter W) : Type 0 where
  pub writes : DisplaysOnOk gives old result text new
  pub styled : DisplaysStyledOnOk gives old result text new
  pub within : IsOk result → IsPrintable moment
  pub refused : ¬ (IsPrintable moment) → result ≡ Err fmt_error
  pub untouched : ¬ (IsPrintable moment) → new ≡ old
