-- A text of a timestamp has exactly one moment or one error.
use Rattle.humantime.specs.Laws.{HasTAndZone, HasOneTimestamp}
use Rattle.humantime.specs.TimestampResults.{moment_at, weak_answer, strict_answer, moment_or_error, IsWeakAnswer, IsStrictAnswer}
use Rattle.humantime.specs.Timestamps.{Check, Fields, fraction_text, fraction_digits, fields_text, IsWeak, zone_text, NoZone, date_time_text, IsStrict, IsWeakMoment, IsStrictMoment, has_two_digits, has_digits, number_between, has_separator, has_punctuation, is_valid_date_time, may_be_fraction, weak_checks, first_failed, zone_of, fraction_part, ends_in_zone, has_t_and_zone, strict_checks}
use Rattle.std.proofs.Common.{◌≡◌, ℕ, ◌+◌, ◌/◌, ◌%◌, ◌≤◌, List, length, drop, refl, arith, ◌++◌, rules, ◌≢◌, ap, ◌∙◌, true, slice_index, Option, None, ◌↔◌, ℤ, Result, le-leb}
use Rattle.std.proofs.lemmas.Bool.Decides.{nat_tests}
use Rattle.std.proofs.lemmas.Grind.{common_steps}
use Rattle.std.specs.List.{AllByRecursion}
use Rattle.std.specs.Prelude.{⊤}
use Rattle.humantime.specs.declared.date.error.TimestampError.{TimestampError}
use Rattle.humantime.proofs.Dates.{valid_from_test}
use Rattle.humantime.proofs.TimestampParts.{digits_hold, IsPlain, plain_bytes, zone_found, number_of_two, number_of_four, digits_from_test, zone_shown, has_two_from_test, holds_before_zone}
use Rattle.humantime.proofs.Checks.{digits_after_point, fields_of, all_passed, pairs_from_test, part_digits, nineteen}

-- ==== A text that represents fields passes the checks, and these are the fields at their
-- positions.

-- The digits of a number at its position are parsed to that number.
two_back : (bytes : List ℕ) (k n : ℕ) → k + 2 ≤ length bytes → slice_index bytes k ≡ 48 + n / 10
    → slice_index bytes (k + 1) ≡ 48 + n % 10 → n ≤ 99
    → (has_two_digits bytes k ≡ true) × (number_between bytes k (k + 2) ≡ n)
unfolding has_two_digits
two_back bytes k n long first second h = grind (arith, number_of_two)

year_back : (bytes : List ℕ) (n : ℕ) → 4 ≤ length bytes → n ≤ 9999
    → slice_index bytes 0 ≡ 48 + n / 1000 → slice_index bytes 1 ≡ 48 + n / 100 % 10
    → slice_index bytes 2 ≡ 48 + n / 10 % 10 → slice_index bytes 3 ≡ 48 + n % 10
    → (has_two_digits bytes 0 ≡ true) × (has_two_digits bytes 2 ≡ true)
    × (number_between bytes 0 4 ≡ n)
unfolding has_two_digits
year_back bytes n long h first second third fourth = grind (arith, nat_tests, number_of_four)

-- The bytes between the seconds and the zone.
ending : (fraction : Option (List ℕ)) → (may_be_fraction (fraction_text fraction) ≡ true)
    × (drop 1 (fraction_text fraction) ≡ fraction_digits fraction)
    × (digits_after_point (fraction_text fraction) ≡ fraction)
unfolding may_be_fraction
ending fraction = grind arith

written_passes : (f : Fields) → IsWeak (fields_text f) f
    → (first_failed (weak_checks (fields_text f)) ≡ None) × (f ≡ fields_of (fields_text f))
unfolding is_valid_date_time has_digits has_punctuation has_separator
written_passes f w =
    let bytes = fields_text f in
    let long : 19 ≤ length bytes = omega arith in
    let within = valid_from_test f.date.year f.date.month f.date.day w.date in
    let year = year_back bytes f.date.year (omega (arith, long)) within.0.1 refl refl refl refl in
    let month =
    two_back bytes 5 f.date.month (omega (arith, long)) refl refl (omega (arith, within.1.1)) in
    let day = two_back bytes 8 f.date.day (omega (arith, long)) refl refl (grind (arith, within.2.1, nat_tests)) in
    let hour = two_back bytes 11 f.hour (omega (arith, long)) refl refl (omega (arith, w.hour)) in
    let minute =
    two_back bytes 14 f.minute (omega (arith, long)) refl refl (omega (arith, w.minute)) in
    let second =
    two_back bytes 17 f.second (omega (arith, long)) refl refl (omega (arith, w.second)) in
    let plain : AllByRecursion IsPlain (fraction_text f.fraction) =
    grind (arith, plain_bytes, digits_hold, digits_from_test, w.fraction) in
    grind (
      arith,
      common_steps,
      nat_tests,
      le-leb,
      (ending f.fraction),
      (zone_found (fraction_text f.fraction) f.zone plain),
    )

pub weak_fields : (bytes : List ℕ) (f : Fields) → IsWeak bytes f
    → (first_failed (weak_checks bytes) ≡ None) × (f ≡ fields_of bytes)
weak_fields bytes f w = rw w.text (written_passes f (rw w.text at w))

-- ==== A text that fails no check represents the fields at their positions.

pair_shown : (bytes : List ℕ) (k : ℕ) → k + 2 ≤ length bytes → has_two_digits bytes k ≡ true
    → (slice_index bytes k ≡ 48 + number_between bytes k (k + 2) / 10)
    × (slice_index bytes (k + 1) ≡ 48 + number_between bytes k (k + 2) % 10)
pair_shown bytes k long h = grind (arith, has_two_from_test, number_of_two)

year_shown : (bytes : List ℕ) → 4 ≤ length bytes → has_two_digits bytes 0 ≡ true
    → has_two_digits bytes 2 ≡ true
    → (slice_index bytes 0 ≡ 48 + number_between bytes 0 4 / 1000)
    × (slice_index bytes 1 ≡ 48 + number_between bytes 0 4 / 100 % 10)
    × (slice_index bytes 2 ≡ 48 + number_between bytes 0 4 / 10 % 10)
    × (slice_index bytes 3 ≡ 48 + number_between bytes 0 4 % 10)
year_shown bytes long century decade = search (rules, has_two_from_test, number_of_four)

written_shown : (bytes : List ℕ) → first_failed (weak_checks bytes) ≡ None
    → bytes ≡ fields_text (fields_of bytes)
unfolding has_punctuation has_separator may_be_fraction
written_shown bytes passed =
    let p = all_passed bytes passed in
    let pairs = pairs_from_test bytes p.2 in
    let end : drop 19 bytes ≡ fraction_text (digits_after_point (fraction_part bytes))
    ++ zone_text (zone_of (drop 19 bytes)) = grind (arith, (zone_shown (drop 19 bytes)), p.4) in
    grind (
      arith,
      common_steps,
      nat_tests,
      nineteen,
      (year_shown bytes (omega arith) pairs.0 pairs.1),
      (pair_shown bytes 5 (omega arith) pairs.2),
      (pair_shown bytes 8 (omega arith) pairs.3),
      (pair_shown bytes 11 (omega arith) pairs.4),
      (pair_shown bytes 14 (omega arith) pairs.5),
      (pair_shown bytes 17 (omega arith) pairs.6),
    )

pub fields_weak : (bytes : List ℕ) → first_failed (weak_checks bytes) ≡ None
    → IsWeak bytes (fields_of bytes)
unfolding is_valid_date_time
fields_weak bytes passed =
    grind (arith, (all_passed bytes passed), (written_shown bytes passed), nat_tests, part_digits)

-- ==== A text in the strict format is one in the weak format with a `T` and a zone.

zone_by_end : (bytes : List ℕ) (f : Fields) → IsWeak bytes f → (f.zone ≢ NoZone)
    ↔ (ends_in_zone bytes ≡ true)
unfolding zone_of
zone_by_end bytes f w =
    let found =
    zone_found (date_time_text f ++ fraction_text f.fraction) f.zone
    (holds_before_zone IsPlain plain_bytes bytes f w) in
    grind (arith, common_steps, (ap zone_of w.text ∙ found))

pub strict_is_marked_weak : (bytes : List ℕ) (f : Fields) → IsStrict bytes f
    ↔ (IsWeak bytes f × HasTAndZone bytes)
strict_is_marked_weak bytes f = grind (arith, zone_by_end)

-- The check of the strict format.
pub strict_checked : (bytes : List ℕ) (f : Fields) → IsStrict bytes f
    ↔ ((has_t_and_zone bytes ≡ true) × IsWeak bytes f)
unfolding has_t_and_zone
strict_checked bytes f = grind (arith, strict_is_marked_weak)

-- ==== The two directions of each parser's result, and the laws of parsing.

-- If the text represents exactly the fields at their positions, and only if no check fails, then
-- the result by the checks is the one outcome.
outcome_of_checks : (bytes : List ℕ) (checks : List Check) (IsShown : Fields → Type 0)
    → ((f : Fields) → IsShown f ↔ ((first_failed checks ≡ None) × (f ≡ fields_of bytes)))
    → HasOneTimestamp checks IsShown (moment_or_error (first_failed checks) (moment_at bytes))
outcome_of_checks bytes checks IsShown decided =
    grind (arith, part_digits, decided, (decided (fields_of bytes)))

pub weak_outcome : (bytes : List ℕ)
    → HasOneTimestamp (weak_checks bytes) (IsWeak bytes) (weak_answer bytes)
unfolding weak_answer
weak_outcome bytes =
    outcome_of_checks bytes (weak_checks bytes) (IsWeak bytes)
    (λ f. grind (arith, (weak_fields bytes f), (fields_weak bytes)))

pub strict_outcome : (bytes : List ℕ)
    → HasOneTimestamp (strict_checks bytes) (IsStrict bytes) (strict_answer bytes)
unfolding strict_answer
strict_outcome bytes =
    outcome_of_checks bytes (strict_checks bytes) (IsStrict bytes)
    (λ f. grind (arith, (strict_checked bytes f), (weak_fields bytes f), (fields_weak bytes)))

-- The results of the parsers are those that are computed.
pub weak_told : (bytes : List ℕ) (r : Result ℤ TimestampError) → r ≡ weak_answer bytes
    → IsWeakAnswer bytes r
weak_told bytes r is = let one = weak_outcome bytes in
    rw is (record { value = one.value; error = one.error; answer = refl })

pub strict_told : (bytes : List ℕ) (r : Result ℤ TimestampError) → r ≡ strict_answer bytes
    → IsStrictAnswer bytes r
strict_told bytes r is = let one = strict_outcome bytes in
    rw is (record { value = one.value; error = one.error; answer = refl })

pub strict_moment_is_weak : (bytes : List ℕ) (t : ℤ) → IsStrictMoment bytes t
    ↔ (IsWeakMoment bytes t × HasTAndZone bytes)
strict_moment_is_weak bytes t = grind (arith, (strict_is_marked_weak bytes))

-- Both answers, opened together.
unfoldable pub answers_open : ⊤
unfolding strict_answer weak_answer
answers_open = tt
