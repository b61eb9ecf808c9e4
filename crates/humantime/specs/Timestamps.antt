-- Timestamps: the fields of a text and the moment that they denote, the checks of the parsers, and
-- the printed text of a moment.
use Rattle.std.specs.Prelude.{ℕ, ◌+◌, ◌/◌, ◌%◌, List, [], ◌∷◌, ◌≡◌, ◌≢◌, ◌*◌, ◌≤◌, min, ◌++◌, take, codes, Option, Some, None, ℤ, pos, unwrap_or, IsTrue, ◌-◌, Bool, ◌&&◌, ◌||◌, ◌==◌, nat_le, nat_eq, if◌then◌else◌, length, drop, slice_index, slice_range, ◌^◌, option_map, ◌≤ℤ◌, ◌<ℤ◌, ◌-ℤ◌}
use Rattle.std.specs.Str.{byte, all_ascii_digits}
use Rattle.std.specs.Char.{is_ascii_digit}
use Rattle.std.specs.List.{list_all, ends_with}
use Rattle.std.specs.Int.{int_rem_euclid}
use Rattle.humantime.specs.Characters.{decimal_value}
use Rattle.humantime.specs.declared.calendar.Date.{Date}
use Rattle.humantime.specs.Calendar.{IsDate, day_of, is_valid}
use Rattle.humantime.specs.Values.{nanos_per_second, seconds_per_day, seconds_per_hour, seconds_per_minute, nano_of}
use Rattle.humantime.specs.declared.date.error.TimestampError.{TimestampError}
use Rattle.humantime.specs.declared.date.parse.DateTime.{DateTime}
use Rattle.humantime.specs.declared.date.error.TimestampError.TheVariants.{OutOfRange, InvalidDigit, InvalidFormat}

-- ==== The fields of a timestamp, the texts that represent them, and the moment that they denote. A
-- text is its list of bytes.

-- Returns the ASCII digit of a number below 10.
abbrev pub digit : ℕ → ℕ
digit n = byte "0" + n

-- Returns the two digits of a number below 100.
abbrev pub two_digits : ℕ → List ℕ
two_digits n = digit (n / 10) ∷ digit (n % 10) ∷ []

-- Returns the four digits of a number below 10,000.
abbrev pub four_digits : ℕ → List ℕ
four_digits n = digit (n / 1000) ∷ digit (n / 100 % 10) ∷ digit (n / 10 % 10) ∷ digit (n % 10) ∷ []

-- The separator between the date and the time is a `T` or a space.
pub data Separator : Type 0 where
  Letter_T : Separator
  Space : Separator

-- The zone at the end of a text, if any, is `Z` or `+00:00`. Both mean UTC.
pub data Zone : Type 0 where
  NoZone : Zone
  Letter_Z : Zone
  ZeroOffset : Zone

-- The fields of a timestamp: the date, the separator, the time, the digits of the fraction of a
-- second, if any, and the zone.
pub record Fields : Type 0 where
  pub date : Date
  pub separator : Separator
  pub hour : ℕ
  pub minute : ℕ
  pub second : ℕ
  pub fraction : Option (List ℕ)
  pub zone : Zone

-- Returns the byte of a separator.
abbrev pub separator_byte : Separator → ℕ
separator_byte Letter_T = byte "T"
separator_byte Space = byte " "

-- Returns the text of a fraction: a point and its digits, or nothing if there is no fraction.
abbrev pub fraction_text : Option (List ℕ) → List ℕ
fraction_text None = []
fraction_text (Some ds) = codes "." ++ ds

-- Returns the text of a zone.
abbrev pub zone_text : Zone → List ℕ
zone_text NoZone = []
zone_text Letter_Z = codes "Z"
zone_text ZeroOffset = codes "+00:00"

-- Returns `YYYY-MM-DD`, the separator and `HH:MM:SS`.
abbrev pub date_time_text : Fields → List ℕ
date_time_text f =
    four_digits f.date.year ++ codes "-" ++ two_digits f.date.month ++ codes "-"
    ++ two_digits f.date.day ++ separator_byte f.separator ∷ two_digits f.hour ++ codes ":"
    ++ two_digits f.minute ++ codes ":" ++ two_digits f.second

-- Returns the text of all fields: the date and the time, followed by the fraction and the zone.
abbrev pub fields_text : Fields → List ℕ
fields_text f = date_time_text f ++ fraction_text f.fraction ++ zone_text f.zone

-- Returns the digits of a fraction, or none if there is no fraction.
abbrev pub fraction_digits : Option (List ℕ) → List ℕ
fraction_digits fraction = unwrap_or fraction []

-- Returns the nanoseconds of a fraction: its first nine digits, padded with trailing zeros.
unfoldable pub fraction_nanos : List ℕ → ℕ
fraction_nanos ds = decimal_value (take 9 (ds ++ codes "000000000"))

-- The text represents these fields in the weak format: the date exists; hour, minute and second are
-- at most 23, 59 and 60; and the fraction, if any, has only digits.
pub record IsWeak (bytes : List ℕ) (f : Fields) : Type 0 where
  pub text : bytes ≡ fields_text f
  pub date : IsDate f.date
  pub hour : f.hour ≤ 23
  pub minute : f.minute ≤ 59
  pub second : f.second ≤ 60
  pub fraction : IsTrue (all_ascii_digits (fraction_digits f.fraction))

-- The text represents these fields in the strict format, which is the weak format with a `T` and a
-- zone.
pub record IsStrict (bytes : List ℕ) (f : Fields) : Type 0 where
  pub weak : IsWeak bytes f
  pub separator : f.separator ≡ Letter_T
  pub zone : f.zone ≢ NoZone

-- Returns the number of seconds from 1970-01-01T00:00:00Z to a date and time. Second 60 counts as
-- second 59.
abbrev pub seconds_of : Date → ℕ → ℕ → ℕ → ℕ
seconds_of date hour minute second =
    day_of date * seconds_per_day + hour * seconds_per_hour + minute * seconds_per_minute
    + min second 59

-- Returns the moment of the fields, in nanoseconds since 1970-01-01T00:00:00Z.
abbrev pub moment_of : Fields → ℕ
moment_of f = seconds_of f.date f.hour f.minute f.second * nanos_per_second
    + fraction_nanos (fraction_digits f.fraction)

-- The text represents the moment `t` in the weak format.
abbrev pub IsWeakMoment : List ℕ → ℤ → Type 0
IsWeakMoment bytes t = (f : Fields) × IsWeak bytes f × (t ≡ pos (moment_of f))

-- The text represents the moment `t` in the strict format.
abbrev pub IsStrictMoment : List ℕ → ℤ → Type 0
IsStrictMoment bytes t = (f : Fields) × IsStrict bytes f × (t ≡ pos (moment_of f))

-- ==== The checks that the parsers make on the bytes of a timestamp, in order, each with its error;
-- and the messages of the errors.

-- Tests whether the text ends in this zone.
abbrev pub ends_in : Zone → List ℕ → Bool
ends_in z bytes = ends_with nat_eq bytes (zone_text z)

-- Tests whether the text ends in `Z` or `+00:00`.
abbrev pub ends_in_zone : List ℕ → Bool
ends_in_zone bytes = ends_in Letter_Z bytes || ends_in ZeroOffset bytes

-- Returns the zone at the end of the text.
unfoldable pub zone_of : List ℕ → Zone
zone_of bytes = if ends_in Letter_Z bytes then Letter_Z
    else (if ends_in ZeroOffset bytes then ZeroOffset else NoZone)

-- Returns the bytes before the zone.
abbrev pub before_zone : List ℕ → List ℕ
before_zone bytes = take (length bytes - length (zone_text (zone_of bytes))) bytes

-- Tests whether the text has at least 20 bytes, a `T` at byte 10, and a zone at the end.
unfoldable pub has_t_and_zone : List ℕ → Bool
has_t_and_zone bytes =
    nat_le 20 (length bytes) && (slice_index bytes 10 == byte "T") && ends_in_zone bytes

-- Tests whether a `T` or a space separates the date from the time.
unfoldable pub has_separator : List ℕ → Bool
has_separator bytes = (slice_index bytes 10 == byte "T") || (slice_index bytes 10 == byte " ")

-- Tests whether the text has `-`, `-`, a separator, `:` and `:` at bytes 4, 7, 10, 13 and 16.
unfoldable pub has_punctuation : List ℕ → Bool
has_punctuation bytes =
    (slice_index bytes 4 == byte "-") && (slice_index bytes 7 == byte "-") && has_separator bytes
    && (slice_index bytes 13 == byte ":") && (slice_index bytes 16 == byte ":")

-- Tests whether bytes `k` and `k + 1` are digits.
unfoldable pub has_two_digits : List ℕ → ℕ → Bool
has_two_digits bytes k = is_ascii_digit (slice_index bytes k)
    && is_ascii_digit (slice_index bytes (k + 1))

-- Tests whether bytes 0 to 3, 5, 6, 8, 9, 11, 12, 14, 15, 17 and 18 are digits.
unfoldable pub has_digits : List ℕ → Bool
has_digits bytes = list_all (λ k. has_two_digits bytes k) (0 ∷ 2 ∷ 5 ∷ 8 ∷ 11 ∷ 14 ∷ 17 ∷ [])

-- Returns the value of the digits from one byte offset to another.
unfoldable pub number_between : List ℕ → ℕ → ℕ → ℕ
number_between bytes from to = decimal_value (slice_range bytes from to)

-- Returns the date and time of the first 19 bytes, which may be out of range.
abbrev pub date_time_of : List ℕ → DateTime
date_time_of bytes = record {
  date = record {
    year = number_between bytes 0 4;
    month = number_between bytes 5 7;
    day = number_between bytes 8 10;
  };
  hour = number_between bytes 11 13;
  minute = number_between bytes 14 16;
  second = number_between bytes 17 19;
}

-- Tests whether the date exists and hour, minute and second are at most 23, 59 and 60.
unfoldable pub is_valid_date_time : DateTime → Bool
is_valid_date_time x =
    is_valid x.date.year x.date.month x.date.day && nat_le x.hour 23 && nat_le x.minute 59
    && nat_le x.second 60

-- Returns the bytes between the seconds and the zone.
abbrev pub fraction_part : List ℕ → List ℕ
fraction_part bytes = before_zone (drop 19 bytes)

-- Tests whether these bytes are empty or begin with a point.
unfoldable pub may_be_fraction : List ℕ → Bool
may_be_fraction part = (length part == 0) || (slice_index part 0 == byte ".")

-- A check: whether the text passes it, and the error if it does not.
pub record Check : Type 0 where
  pub passes : Bool
  pub error : TimestampError

-- The checks of the weak format in order.
abbrev pub weak_checks : List ℕ → List Check
weak_checks bytes =
    record { passes = nat_le 19 (length bytes); error = InvalidFormat }
    ∷ record { passes = has_punctuation bytes; error = InvalidFormat }
    ∷ record { passes = has_digits bytes; error = InvalidDigit }
    ∷ record { passes = is_valid_date_time (date_time_of bytes); error = OutOfRange }
    ∷ record { passes = may_be_fraction (fraction_part bytes); error = InvalidFormat }
    ∷ record { passes = all_ascii_digits (drop 1 (fraction_part bytes)); error = InvalidDigit }
    ∷ []

-- The checks of the strict format: that for a `T` and a zone, followed by those of the weak format.
abbrev pub strict_checks : List ℕ → List Check
strict_checks bytes =
    record { passes = has_t_and_zone bytes; error = InvalidFormat } ∷ weak_checks bytes

-- Returns the error of the first check that fails, or `None` if none does.
abbrev pub first_failed : List Check → Option TimestampError
first_failed [] = None
first_failed (check ∷ checks) = if check.passes then first_failed checks else Some check.error

-- Returns the message of an error.
abbrev pub timestamp_message : TimestampError → List ℕ
timestamp_message OutOfRange = codes "numeric component is out of range"
timestamp_message InvalidDigit = codes "bad character where digit is expected"
timestamp_message InvalidFormat = codes "timestamp format is invalid"

-- ==== The printed text of a moment, rounded down to a number of fraction digits. A text is its
-- list of bytes.

-- A moment to print, in nanoseconds, and the number of digits of its fraction, at most nine.
pub record MomentToPrint : Type 0 where
  pub moment : ℤ
  pub places : ℕ
  pub few : places ≤ 9

-- Returns the default number of digits: none for a whole second, and nine otherwise.
abbrev pub places_of : ℤ → ℕ
places_of t = if nano_of t == 0 then 0 else 9

-- Rounds a moment down to `k` digits of a second.
abbrev pub cut : ℤ → ℕ → ℤ
cut t k = t -ℤ int_rem_euclid t (pos (10 ^ (9 - k)))

-- The text represents the moment `t`, rounded down to `k` digits of a second, at most nine. It has
-- a `T`, a `Z` and exactly `k` fraction digits, and no point if `k` is 0. The second is never 60.
pub record IsPrinted (t : ℤ) (k : ℕ) (bytes : List ℕ) : Type 0 where
  pub few : k ≤ 9
  pub fields : Fields
  pub weak : IsWeak bytes fields
  pub separator : fields.separator ≡ Letter_T
  pub zone : fields.zone ≡ Letter_Z
  pub second : fields.second ≤ 59
  pub places : option_map length fields.fraction ≡ (if k == 0 then None else Some k)
  pub moment : pos (moment_of fields) ≡ cut t k

-- The first moment of the year 10000, 2,932,897 days after 1970-01-01.
abbrev pub year_10000 : ℕ
year_10000 = 2_932_897 * seconds_per_day * nanos_per_second

-- The text is the printed text of some moment, with `k` fraction digits.
abbrev pub IsPrintedWith : ℕ → List ℕ → Type 0
IsPrintedWith k bytes = (t : ℤ) × IsPrinted t k bytes

-- The moment is in the years 1970 to 9999.
abbrev pub IsPrintable : ℤ → Type 0
IsPrintable t = (pos 0 ≤ℤ t) × (t <ℤ pos year_10000)
