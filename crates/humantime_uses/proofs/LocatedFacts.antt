-- Which bytes of any timestamp and any duration are wrong, and what stands under any line: each
-- rule written out, so that it holds at every value.
use Rattle.humantime.specs.Calendar.{days_in_month}
use Rattle.humantime.specs.Characters.{byte_length, offset_of}
use Rattle.humantime.specs.DurationErrors.{InvalidCharacter, NumberExpected, UnknownUnit, NumberOverflow, Empty, HasFault, after_word, span_of}
use Rattle.humantime.specs.Durations.{digits_overflow}
use Rattle.humantime.specs.Timestamps.{number_between}
use Rattle.std.proofs.Common.{◌≡◌, ◌≢◌, ◌↔◌, ◌⊎◌, ℕ, ◌+◌, ◌<◌, ◌≤◌, List, [], ◌∷◌, ◌++◌, length, drop, refl, chars, arith, Bool, true, false, ◌||◌, ◌==◌, codes, slice_index, zip}
use Rattle.std.proofs.lemmas.Bool.{cases_Bool}
use Rattle.std.proofs.lemmas.Bool.Decides.{nat_tests}
use Rattle.std.specs.Char.{is_ascii_digit}
use Rattle.std.specs.Int.{is_in_range}
use Rattle.std.specs.List.{prefix_len}
use Rattle.std.specs.Str.{byte}
use Rattle.humantime.specs.declared.date.error.TimestampError.{TimestampError}
use Rattle.humantime.specs.declared.date.error.TimestampError.TheVariants.{OutOfRange, InvalidDigit, InvalidFormat}
use Rattle.humantime.proofs.OnLiterals.{timestamps_on_literals}
use Rattle.humantime_std.specs.Located.{IsFaultRange, char_end, error_range, fit_len, fits, fraction_end, layout, timestamp_len, wrong_field, zone_len}

-- ---- what can stand at a place

-- A digit fits `0`, and of other bytes only themselves fit, but a `T` fits a space, which is no
-- separator in the strict format.
any_place : (strict : Bool) (b : ℕ) → (fits strict (byte "0") b ≡ is_ascii_digit b)
    × (fits strict (byte "-") b ≡ (b == byte "-")) × (fits strict (byte ":") b ≡ (b == byte ":"))
    × (fits false (byte " ") b ≡ ((b == byte "T") || (b == byte " ")))
    × (fits true (byte " ") b ≡ (b == byte "T"))
any_place strict b = (refl, refl, refl, grind (arith, nat_tests), grind (arith, nat_tests))

-- The first 19 bytes are compared with these, in order, up to the first that does not fit.
any_layout : (strict : Bool) (b : List ℕ)
    → (layout ≡ codes "0000-00-00 00:00:00") × (fit_len strict b
    ≡ prefix_len (λ p. fits strict p.0 p.1) (zip (codes "0000-00-00 00:00:00") b))
unfolding fit_len
any_layout strict b = (refl, refl)

-- ---- which bytes are wrong

-- The wrong character, or the end of the text, comes first, then the first number that is out of
-- its bounds, then what follows the longest timestamp.
any_range : (strict : Bool) (b : List ℕ) (e : TimestampError)
    → (fit_len strict b ≢ 19 → error_range strict b e ≡ (fit_len strict b, char_end b (fit_len strict b)))
    × (fit_len strict b ≡ 19 → error_range strict b OutOfRange ≡ wrong_field b)
    × (fit_len strict b ≡ 19 → error_range strict b InvalidDigit ≡ (timestamp_len b, length b))
    × (fit_len strict b ≡ 19 → error_range strict b InvalidFormat ≡ (timestamp_len b, length b))
any_range strict b e = (
  grind (arith, nat_tests),
  grind (arith, nat_tests),
  grind (arith, nat_tests),
  grind (arith, nat_tests),
)

-- The first number that is out of its bounds.
any_field : (b : List ℕ) → let number =
    number_between b in let year = number 0 4 in let month = number 5 7 in let day = number 8 10 in
    (year < 1970 → wrong_field b ≡ (0, 4))
    × (1970 ≤ year → (month < 1) ⊎ (12 < month) → wrong_field b ≡ (5, 7))
    × (1970 ≤ year → year ≤ 9999 → 1 ≤ month → month ≤ 12
    → ((day < 1) ⊎ (days_in_month year month < day) → wrong_field b ≡ (8, 10))
    × (1 ≤ day → day ≤ days_in_month year month → (23 < number 11 13 → wrong_field b ≡ (11, 13))
    × (number 11 13 ≤ 23 → 59 < number 14 16 → wrong_field b ≡ (14, 16))
    × (number 11 13 ≤ 23 → number 14 16 ≤ 59 → wrong_field b ≡ (17, 19))))
unfolding wrong_field timestamps_on_literals
any_field b = (
  grind (arith, nat_tests),
  grind (arith, nat_tests),
  λ from to low few. (
    grind (arith, nat_tests),
    λ first last.
        (grind (arith, nat_tests), grind (arith, nat_tests), grind (arith, nat_tests)),
  ),
)

-- The longest timestamp has any fraction, and one zone: a `Z`, or `+00:00`, and nothing after it.
any_fraction : (b : List ℕ)
    → (slice_index b 19 ≡ byte "." → fraction_end b ≡ 20 + prefix_len is_ascii_digit (drop 20 b))
    × (slice_index b 19 ≢ byte "." → fraction_end b ≡ 19)
    × (timestamp_len b ≡ fraction_end b + zone_len (drop (fraction_end b) b))
unfolding fraction_end
any_fraction b = (grind (arith, nat_tests), grind (arith, nat_tests), refl)

any_zone : (rest : List ℕ) (c : ℕ)
    → (zone_len (byte "Z" ∷ rest) ≡ 1) × (zone_len (codes "+00:00" ++ rest) ≡ 6) × (zone_len [] ≡ 0)
    × (c ≢ byte "Z" → c ≢ byte "+" → zone_len (c ∷ rest) ≡ 0)
unfolding zone_len
any_zone rest c = (refl, refl, refl, grind (arith, nat_tests))

-- ---- durations

-- A character ends before the next byte that does not go on with it, or with the text.
any_character : (text : List ℕ) (at : ℕ) → let rest =
    drop (at + 1) text in let more = prefix_len (is_in_range 128 191) rest in
    (at + 1 + more ≤ length text → char_end text at ≡ at + 1 + more)
    × (length text ≤ at → char_end text at ≡ length text)
unfolding char_end
any_character text at = (grind (arith, nat_tests), grind (arith, nat_tests))

any_fault : (text unit : List ℕ) (at to value start end : ℕ)
    → (IsFaultRange text (InvalidCharacter at) start end ↔ ((start ≡ at) × (end ≡ char_end text at)))
    × (IsFaultRange text (NumberExpected at) start end ↔ ((start ≡ at) × (end ≡ char_end text at)))
    × (IsFaultRange text (UnknownUnit at to unit value) start end ↔ ((start ≡ at) × (end ≡ to)))
    × (IsFaultRange text Empty start end ↔ ((start ≡ 0) × (end ≡ length text)))
any_fault text unit at to value start end =
    ((λ x. x, λ x. x), (λ x. x, λ x. x), (λ x. x, λ x. x), (λ x. x, λ x. x))

-- An overflow is at the span that breaks a limit, and goes on to the end of the text if its number
-- or its fraction is too long.
any_overflow : (text : List ℕ) (start end : ℕ) → IsFaultRange text NumberOverflow start end
    ↔ ((h : HasFault (chars text) NumberOverflow) × (start ≡ offset_of (chars text) h.rest)
    × (digits_overflow (span_of h.rest) ≡ true → end ≡ byte_length (chars text))
    × (digits_overflow (span_of h.rest) ≡ false → end ≡ offset_of (chars text) (after_word h.rest)))
any_overflow text start end = (
  λ o. (o.fault, o.at_start, λ long. grind (arith, long, o.at_end), λ short. grind (arith, short, o.at_end)),
  λ h. record {
    fault = h.0;
    at_start = h.1;
    at_end = grind
        (arith, cases_Bool (digits_overflow (span_of h.0.rest)), h);
  },
)
