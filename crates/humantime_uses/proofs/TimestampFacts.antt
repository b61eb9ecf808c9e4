-- What holds of any date, timestamp, moment and run of a job: each rule written out.
use Rattle.humantime.specs.Calendar.{IsDate, days_in_month, days_of_months, days_of_years, is_valid, day_of}
use Rattle.humantime.specs.Characters.{decimal_value}
use Rattle.humantime.specs.Laws.{ReadsAs}
use Rattle.humantime.specs.Timestamps.{Check, cut, places_of, IsPrintable, IsPrinted, IsStrictMoment, IsWeakMoment, date_time_of, ends_in_zone, first_failed, fraction_part, has_two_digits, is_valid_date_time, strict_checks, weak_checks, Fields, Letter_T, Space, NoZone, Letter_Z, ZeroOffset, IsStrict, IsWeak, fields_text, fraction_digits, fraction_nanos, fraction_text, moment_of, separator_byte, zone_text}
use Rattle.std.proofs.Common.{◌≡◌, ◌≢◌, ◌↔◌, ℕ, ◌+◌, ◌-◌, ◌*◌, ◌/◌, ◌%◌, ◌^◌, ◌≤◌, List, [], ◌∷◌, ◌++◌, None, Some, suc, length, take, drop, refl, arith, ℤ, ◌+ℤ◌, ◌≤ℤ◌, ◌<ℤ◌, pos, negsuc, true, false, ◌&&◌, ◌||◌, ◌==◌, nat_le, if◌then◌else◌, codes, min, not, option_map, slice_index, slice_range, nat_eq, IsTrue}
use Rattle.std.proofs.lemmas.Bool.Decides.{nat_tests}
use Rattle.std.proofs.lemmas.Int.{ints}
use Rattle.std.specs.Char.{is_ascii_digit}
use Rattle.std.specs.List.{ends_with, list_all}
use Rattle.std.specs.Str.{byte, all_ascii_digits}
use Rattle.humantime.specs.declared.calendar.Date.{Date}
use Rattle.humantime.specs.declared.date.error.TimestampError.{TimestampError}
use Rattle.humantime.specs.declared.date.error.TimestampError.TheVariants.{OutOfRange, InvalidDigit, InvalidFormat}
use Rattle.humantime.proofs.OnLiterals.{timestamps_on_literals}
use Rattle.humantime_std.specs.Schedule.{IsDue, IsMonthlyDue, december_9999, midnight}

-- ---- days

-- Months have these lengths. Years and months are counted one by one, and a year is its twelve
-- months.
any_month : (y m : ℕ) → let leap = (y % 4 == 0) && (not (y % 100 == 0) || (y % 400 == 0)) in
    days_in_month y m ≡ (if m == 2 then (if leap then 29 else 28)
    else (if (m == 4) || (m == 6) || (m == 9) || (m == 11) then 30 else 31))
any_month y m = refl

any_count : (y n : ℕ) → (days_of_years 0 ≡ 0)
    × (days_of_years (suc n) ≡ days_of_years n + days_of_months (1970 + n) 12)
    × (days_of_months y 0 ≡ 0)
    × (days_of_months y (suc n) ≡ days_of_months y n + days_in_month y (suc n))
unfolding days_of_years days_of_months
any_count y n = (refl, grind (arith, nat_tests), refl, refl)

any_date : (d : Date)
    → day_of d ≡ days_of_years (d.year - 1970) + days_of_months d.year (d.month - 1) + (d.day - 1)
any_date d = refl

-- ---- errors

-- The first of these checks that fails gives the error, after that for a `T` and a zone in the
-- strict format.
any_checks : (b : List ℕ) → let at = slice_index b in
    (weak_checks b
    ≡ record { passes = nat_le 19 (length b); error = InvalidFormat }
    ∷ record {
      passes = (at 4 == byte "-") && (at 7 == byte "-")
          && ((at 10 == byte "T") || (at 10 == byte " ")) && (at 13 == byte ":")
          && (at 16 == byte ":");
      error = InvalidFormat;
    }
    ∷ record {
      passes = list_all (λ k. has_two_digits b k) (0 ∷ 2 ∷ 5 ∷ 8 ∷ 11 ∷ 14 ∷ 17 ∷ []);
      error = InvalidDigit;
    }
    ∷ record { passes = is_valid_date_time (date_time_of b); error = OutOfRange }
    ∷ record {
      passes = (length (fraction_part b) == 0) || (slice_index (fraction_part b) 0 == byte ".");
      error = InvalidFormat;
    }
    ∷ record { passes = all_ascii_digits (drop 1 (fraction_part b)); error = InvalidDigit } ∷ [])
    × (strict_checks b ≡ record {
      passes = nat_le 20 (length b) && (at 10 == byte "T") && ends_in_zone b;
      error = InvalidFormat;
    } ∷ weak_checks b)
unfolding timestamps_on_literals
any_checks b = (refl, refl)

any_parts : (b : List ℕ) (k : ℕ) (x : _) (y m d : ℕ)
    → (has_two_digits b k
    ≡ (is_ascii_digit (slice_index b k) && is_ascii_digit (slice_index b (k + 1))))
    × (is_valid_date_time x ≡ (is_valid x.date.year x.date.month x.date.day && nat_le x.hour 23
    && nat_le x.minute 59 && nat_le x.second 60))
    × (is_valid y m d ≡ ((nat_le 1970 y && nat_le y 9999) && (nat_le 1 m && nat_le m 12)
    && (nat_le 1 d && nat_le d (days_in_month y m))))
unfolding timestamps_on_literals
any_parts b k x y m d = (refl, refl, refl)

-- The numbers are at these bytes, and the fraction is between byte 19 and the zone, whatever the
-- length of the text is.
any_part : (b : List ℕ) → let rest = drop 19 b in let ends = ends_with nat_eq rest in
    let zone = if ends (codes "Z") then Letter_Z
    else (if ends (codes "+00:00") then ZeroOffset else NoZone) in
    let number = λ (from to : ℕ). decimal_value (slice_range b from to) in
    (date_time_of b
    ≡ record {
      date = record { year = number 0 4; month = number 5 7; day = number 8 10 };
      hour = number 11 13;
      minute = number 14 16;
      second = number 17 19;
    })
    × (fraction_part b ≡ take (length rest - length (zone_text zone)) rest)
unfolding timestamps_on_literals
any_part b = (refl, refl)

first_error : (e : TimestampError) (others : List Check)
    → (first_failed (record { passes = true; error = e } ∷ others) ≡ first_failed others)
    × (first_failed (record { passes = false; error = e } ∷ others) ≡ Some e)
first_error e others = (refl, refl)

-- ---- formats

-- Nothing else is asked of the text of any fields in the weak format, nor in the strict one.
weak_format : (text : List ℕ) (f : Fields)
    → IsWeak text f
    ↔ ((text ≡ fields_text f) × IsDate f.date × (f.hour ≤ 23) × (f.minute ≤ 59) × (f.second ≤ 60)
    × IsTrue (all_ascii_digits (fraction_digits f.fraction)))
weak_format text f = (
  λ w. (w.text, w.date, w.hour, w.minute, w.second, w.fraction),
  λ h. record { text = h.0; date = h.1; hour = h.2; minute = h.3; second = h.4; fraction = h.5 },
)

strict_format : (text : List ℕ) (f : Fields) → IsStrict text f
    ↔ (IsWeak text f × (f.separator ≡ Letter_T) × (f.zone ≢ NoZone))
strict_format text f =
    (λ s. (s.weak, s.separator, s.zone), λ h. record { weak = h.0; separator = h.1; zone = h.2 })

abbrev two : ℕ → List ℕ
two n = (48 + n / 10) ∷ (48 + n % 10) ∷ []

any_text : (f : Fields) → let y = f.date.year in
    fields_text f
    ≡ (48 + y / 1000) ∷ (48 + y / 100 % 10) ∷ (48 + y / 10 % 10) ∷ (48 + y % 10) ∷ byte "-"
    ∷ two f.date.month ++ byte "-" ∷ two f.date.day
    ++ separator_byte f.separator ∷ two f.hour ++ byte ":" ∷ two f.minute ++ byte ":" ∷ two f.second
    ++ fraction_text f.fraction ++ zone_text f.zone
any_text f = refl

any_mark : (ds : List ℕ) → (separator_byte Letter_T ≡ byte "T") × (separator_byte Space ≡ byte " ")
    × (zone_text NoZone ≡ []) × (zone_text Letter_Z ≡ codes "Z")
    × (zone_text ZeroOffset ≡ codes "+00:00")
    × (fraction_text None ≡ []) × (fraction_text (Some ds) ≡ byte "." ∷ ds)
any_mark ds = (refl, refl, refl, refl, refl, refl, refl)

-- Second 60 counts as second 59, and nine digits of a fraction count.
any_moment : (f : Fields)
    → moment_of f
    ≡ (day_of f.date * 86_400 + f.hour * 3_600 + f.minute * 60 + min f.second 59) * 1_000_000_000
    + decimal_value (take 9 (fraction_digits f.fraction ++ codes "000000000"))
unfolding fraction_nanos
any_moment f = refl

-- ---- printing; `negsuc n` is n + 1 nanoseconds before 1970

-- `format_rfc3339` prints no digits if the nanoseconds are zero, and otherwise nine. A moment is
-- rounded down, also before 1970.
any_cut : (n k : ℕ) → (places_of (pos n) ≡ (if n % 1_000_000_000 == 0 then 0 else 9))
    × (places_of (negsuc n) ≡ (if (n + 1) % 1_000_000_000 == 0 then 0 else 9))
    × (cut (pos n) k ≡ pos (n - n % 10 ^ (9 - k)))
    × (cut (negsuc n) k ≡ negsuc (n + (10 ^ (9 - k) - 1 - n % 10 ^ (9 - k))))
any_cut n k = (refl, grind (arith, nat_tests), grind (arith, ints), grind (arith, ints))

-- Nothing else is asked of a printed text.
printed_form : (t : ℤ) (k : ℕ) (text : List ℕ)
    → IsPrinted t k text
    ↔ ((k ≤ 9)
    × ((f : Fields) × IsWeak text f × (f.separator ≡ Letter_T) × (f.zone ≡ Letter_Z) × (f.second ≤ 59)
    × (option_map length f.fraction ≡ (if k == 0 then None else Some k))
    × (pos (moment_of f) ≡ cut t k)))
printed_form t k text = (
  λ p. (p.few, (p.fields, p.weak, p.separator, p.zone, p.second, p.places, p.moment)),
  λ h.
      record {
        few = h.0;
        fields = h.1.0;
        weak = h.1.1;
        separator = h.1.2;
        zone = h.1.3;
        second = h.1.4;
        places = h.1.5;
        moment = h.1.6;
      },
)

-- Its moment is represented in both forms, from 1970 to 9999.
any_printed : (text : List ℕ) (t : ℤ)
    → (ReadsAs text t ↔ (IsStrictMoment text t × IsWeakMoment text t))
    × (IsPrintable t ↔ ((pos 0 ≤ℤ t) × (t <ℤ pos 253_402_300_800_000_000_000)))
any_printed text t =
    ((λ r. (r.strict, r.weak), λ h. record { strict = h.0; weak = h.1 }), (λ h. h, λ h. h))

-- ---- runs of a job, one or more whole periods after the last one, and not before now

any_run : (last now t : ℤ) (every : ℕ) → IsDue last every now t
    ↔ ((now ≤ℤ t) × ((k : ℕ) × (1 ≤ k) × (t ≡ last +ℤ pos (k * every))))
any_run last now t every = (
  λ due. (due.not_before_now, (due.periods, due.one_or_more, due.at)),
  λ h. record { periods = h.1.0; one_or_more = h.1.1; at = h.1.2; not_before_now = h.0 },
)

-- ---- monthly runs, at the midnight of the first of a month, after the last and not before now

any_monthly_run : (last now t : ℤ) → IsMonthlyDue last now t
    ↔ ((last <ℤ t) × (now ≤ℤ t)
    × ((d : Date) × IsDate d × (d.day ≡ 1) × (t ≡ pos (day_of d * 86_400_000_000_000))))
any_monthly_run last now t = (
  λ due.
      let month = due.month in
      let at : t ≡ pos (day_of month.date * 86_400_000_000_000) = rw month.counted due.at in
      (due.after_last, due.not_before_now, (month.date, month.exists, month.first, at)),
  λ h. record {
    day = day_of h.2.0;
    month = record { date = h.2.0; exists = h.2.1; counted = refl; first = h.2.2 };
    at = h.2.3;
    after_last = h.0;
    not_before_now = h.1;
  },
)

-- The last one can be on the first of December 9999.
last_monthly_run : midnight december_9999 ≡ pos 253_399_622_400_000_000_000
last_monthly_run = refl
