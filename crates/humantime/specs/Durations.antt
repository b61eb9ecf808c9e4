-- The text of a duration: its units and spans, their sum and limits.
use Rattle.std.specs.Prelude.{ℕ, ◌*◌, List, [], ◌∷◌, ◌++◌, map, Option, Some, None, codes, bytes_eq, ◌≡◌, ◌≢◌, Bool, true, ◌/◌, ◌^◌, length, false, ◌||◌, ◌&&◌, ◌==◌, nat_lt, nat_le, sum_by, flat_map, ◌+◌, ◌%◌, IsSome}
use Rattle.std.specs.Map.{lookup}
use Rattle.std.specs.List.{AllByRecursion}
use Rattle.std.specs.Str.{byte}
pub use Rattle.humantime.specs.declared.unit.Quantity.{Quantity}
pub use Rattle.humantime.specs.declared.unit.Quantity.TheVariants.{Nanos, Seconds}
pub use Rattle.humantime.specs.declared.unit.Scale.{Scale}
use Rattle.humantime.specs.Values.{nanos_per_micro, nanos_per_milli, nanos_per_second, seconds_per_minute, seconds_per_hour, seconds_per_day, seconds_per_week, seconds_per_month, seconds_per_year}
use Rattle.humantime.specs.Characters.{micro_sign, greek_mu, begins, is_whitespace, is_letter, in_number, is_digit, digits, decimal_value, without_trailing_zeros, max_fraction_digits, u64_max, bare_zero}

-- ==== The words of the units, each with its scale: what one unit adds, and the quantity of which
-- its fractions are parts, if it has any. A quantity is a number of nanoseconds or of seconds.

-- The scale of the nanosecond, which has no fractions.
abbrev pub whole_nanos : Scale
whole_nanos = record { one = Nanos 1; for_fractions = None }

-- The scale of a unit of `size` nanoseconds, whose fractions are added as nanoseconds.
abbrev pub in_nanos : ℕ → Scale
in_nanos size = record { one = Nanos size; for_fractions = Some (Nanos size) }

-- The scale of a unit of `size` seconds, whose fractions are added as nanoseconds.
abbrev pub in_seconds_and_nanos : ℕ → Scale
in_seconds_and_nanos size =
    record { one = Seconds size; for_fractions = Some (Nanos (size * nanos_per_second)) }

-- The scale of a unit of `size` seconds, whose fractions are added as seconds.
abbrev pub in_seconds : ℕ → Scale
in_seconds size = record { one = Seconds size; for_fractions = Some (Seconds size) }

-- Pairs each of these words with the scale.
abbrev unit_words : List (List ℕ) → Scale → List (List ℕ × Scale)
unit_words spellings scale = map (λ word. (word, scale)) spellings

-- The words of the units, each with its scale.
abbrev pub words : List (List ℕ × Scale)
words =
    unit_words (codes "nanos" ∷ codes "nsec" ∷ codes "ns" ∷ []) whole_nanos
    ++ unit_words (codes "usec" ∷ codes "us" ∷ (micro_sign ∷ codes "s") ∷ (greek_mu ∷ codes "s")
    ∷ []) (in_nanos nanos_per_micro)
    ++ unit_words (codes "millis" ∷ codes "msec" ∷ codes "ms" ∷ []) (in_nanos nanos_per_milli)
    ++ unit_words (codes "seconds" ∷ codes "second" ∷ codes "secs" ∷ codes "sec" ∷ codes "s" ∷ [])
    (in_seconds_and_nanos 1)
    ++ unit_words (codes "minutes" ∷ codes "minute" ∷ codes "min" ∷ codes "mins" ∷ codes "m" ∷ [])
    (in_seconds_and_nanos seconds_per_minute)
    ++ unit_words (codes "hours" ∷ codes "hour" ∷ codes "hr" ∷ codes "hrs" ∷ codes "h" ∷ [])
    (in_seconds seconds_per_hour)
    ++ unit_words (codes "days" ∷ codes "day" ∷ codes "d" ∷ []) (in_seconds seconds_per_day)
    ++ unit_words (codes "weeks" ∷ codes "week" ∷ codes "wk" ∷ codes "wks" ∷ codes "w" ∷ [])
    (in_seconds seconds_per_week)
    ++ unit_words (codes "months" ∷ codes "month" ∷ codes "M" ∷ []) (in_seconds seconds_per_month)
    ++ unit_words (codes "years" ∷ codes "year" ∷ codes "yr" ∷ codes "yrs" ∷ codes "y" ∷ [])
    (in_seconds seconds_per_year)

-- Returns the scale of a word, if it is a unit.
unfoldable pub scale_of_word : List ℕ → Option Scale
scale_of_word word = lookup (bytes_eq word) words

-- ==== Spans, and how they are written in a text. A text is its list of characters. A word is
-- always as long as possible, because the next span begins with a digit.

-- A span is the digits of a number, those of a fraction, if any, and a word.
pub record SpelledSpan : Type 0 where
  pub number : List ℕ
  pub fraction : Option (List ℕ)
  pub word : List ℕ

-- Each character of the text passes the test.
abbrev pub HasOnly : (ℕ → Bool) → List ℕ → Type 0
HasOnly passes text = AllByRecursion (λ c. passes c ≡ true) text

-- The text is digits and whitespace, and its digits are `ds`.
abbrev pub SpellsDigits : List ℕ → List ℕ → Type 0
SpellsDigits text ds = HasOnly in_number text × (digits text ≡ ds)

-- The text is one or more letters.
abbrev pub IsLetters : List ℕ → Type 0
IsLetters text = HasOnly is_letter text × (text ≢ [])

-- The text is empty if there is no fraction. Otherwise it is a point followed by one or more
-- digits, with any whitespace around and between them.
abbrev pub SpellsFraction : List ℕ → Option (List ℕ) → Type 0
SpellsFraction text None = text ≡ []
SpellsFraction text (Some ds) =
    (after : List ℕ) × (text ≡ byte "." ∷ after) × SpellsDigits after ds × (ds ≢ [])

-- The text is the number of the span, which begins with a digit, its fraction, if any, its word and
-- any whitespace, followed by `rest`.
pub record Spells (text : List ℕ) (span : SpelledSpan) (rest : List ℕ) : Type 0 where
  pub number_text : List ℕ
  pub fraction_text : List ℕ
  pub whitespace : List ℕ
  pub whole : text ≡ number_text ++ (fraction_text ++ (span.word ++ (whitespace ++ rest)))
  pub starts : begins is_digit number_text ≡ true
  pub number : SpellsDigits number_text span.number
  pub fraction : SpellsFraction fraction_text span.fraction
  pub word : IsLetters span.word
  pub only_whitespace : HasOnly is_whitespace whitespace

-- The text is the spans, one after the other.
abbrev pub SpellsSpans : List ℕ → List SpelledSpan → Type 0
SpellsSpans text [] = text ≡ []
SpellsSpans text (span ∷ spans) = (rest : List ℕ) × Spells text span rest × SpellsSpans rest spans

-- The text is any whitespace followed by the spans.
pub record SpellsFront (text : List ℕ) (spans : List SpelledSpan) : Type 0 where
  pub whitespace : List ℕ
  pub body : List ℕ
  pub whole : text ≡ whitespace ++ body
  pub only_whitespace : HasOnly is_whitespace whitespace
  pub each : SpellsSpans body spans

-- The text is one or more spans, after any whitespace.
abbrev pub Reads : List ℕ → List SpelledSpan → Type 0
Reads text spans = SpellsFront text spans × (spans ≢ [])

-- ==== The sum of spans, their limits, and the texts that are accepted. A text is its list of
-- characters.

-- Returns the number of nanoseconds or of seconds in a quantity.
abbrev pub size : Quantity → ℕ
size (Nanos n) = n
size (Seconds n) = n

-- Returns a quantity in nanoseconds.
abbrev pub quantity_nanos : Quantity → ℕ
quantity_nanos (Nanos n) = n
quantity_nanos (Seconds n) = n * nanos_per_second

-- Returns the sum of quantities in nanoseconds.
abbrev pub total : List Quantity → ℕ
total xs = sum_by quantity_nanos xs

-- Returns a quantity of the same kind with this number.
abbrev pub with_size : Quantity → ℕ → Quantity
with_size (Nanos _) n = Nanos n
with_size (Seconds _) n = Seconds n

-- Multiplies a quantity by `n`.
abbrev pub times : ℕ → Quantity → Quantity
times n x = with_size x (n * size x)

-- Returns a quantity times the fraction with the digits `ds`, rounded down. Trailing zeros do not
-- count; the fraction without digits is 0.
abbrev pub fraction_times : List ℕ → Quantity → Quantity
fraction_times ds x = let kept = without_trailing_zeros ds in
    with_size x (decimal_value kept * size x / 10 ^ length kept)

-- Returns what a fraction adds: nothing if there is none or its unit has no fractions.
abbrev pub fraction_additions : Option Quantity → Option (List ℕ) → List Quantity
fraction_additions (Some x) (Some ds) = fraction_times ds x ∷ []
fraction_additions _ _ = []

-- Returns what a span adds if its unit has this scale: its number first, and then its fraction.
abbrev pub additions_at : Option Scale → SpelledSpan → List Quantity
additions_at None s = []
additions_at (Some u) s =
    times (decimal_value s.number) u.one ∷ fraction_additions u.for_fractions s.fraction

-- Returns what a span adds.
abbrev pub additions_of : SpelledSpan → List Quantity
additions_of s = additions_at (scale_of_word s.word) s

-- Returns what the spans add, each number before its fraction.
abbrev pub additions : List SpelledSpan → List Quantity
additions spans = flat_map additions_of spans

-- Returns the sum of the spans in nanoseconds.
abbrev pub value : List SpelledSpan → ℕ
value spans = total (additions spans)

-- Tests whether a number fits a `u64`.
abbrev pub fits_u64 : ℕ → Bool
fits_u64 n = nat_le n u64_max

-- Tests whether an option is `Some` and its value passes a test.
abbrev pub is_some_and : {A : Type 0} → (A → Bool) → Option A → Bool
is_some_and passes None = false
is_some_and passes (Some x) = passes x

-- Tests whether an option is `None` or its value passes a test.
abbrev pub is_none_or : {A : Type 0} → (A → Bool) → Option A → Bool
is_none_or passes None = true
is_none_or passes (Some x) = passes x

-- Tests whether a fraction, if there is one, has more than 19 digits without its trailing zeros.
abbrev pub has_too_many_digits : Option (List ℕ) → Bool
has_too_many_digits fraction =
    is_some_and (λ ds. nat_lt max_fraction_digits (length (without_trailing_zeros ds))) fraction

-- Tests whether the number does not fit a `u64`, or the fraction has too many digits.
abbrev pub digits_overflow : SpelledSpan → Bool
digits_overflow s = nat_lt u64_max (decimal_value s.number) || has_too_many_digits s.fraction

-- Neither the number nor the fraction overflows, and the word is a unit.
pub record Formed (s : SpelledSpan) : Type 0 where
  pub digits_fit : digits_overflow s ≡ false
  pub word : IsSome (scale_of_word s.word)

-- Tests whether `number / 10^count` of `n` is a whole number, and `number` times `n` fits a `u64`.
abbrev pub is_exact_part : ℕ → ℕ → ℕ → Bool
is_exact_part n number count = fits_u64 (number * n) && (number * n % 10 ^ count == 0)

-- Tests with `is_exact_part` the part of `n` that the fraction digits `ds` denote.
abbrev pub is_exact_fraction : ℕ → List ℕ → Bool
is_exact_fraction n ds = is_exact_part n (decimal_value ds) (length ds)

-- Tests whether a fraction, if any, without its trailing zeros, passes `is_exact_fraction`, or is
-- empty if its unit has no fractions.
abbrev pub fraction_fits : Option Quantity → Option (List ℕ) → Bool
fraction_fits _ None = true
fraction_fits None (Some ds) = length (without_trailing_zeros ds) == 0
fraction_fits (Some x) (Some ds) = is_exact_fraction (size x) (without_trailing_zeros ds)

-- Tests whether the number times the size of the unit fits a `u64`, and the fraction fits. A word
-- that is not a unit has no size.
abbrev pub fits : SpelledSpan → Bool
fits s =
    is_none_or (λ u. fits_u64 (decimal_value s.number * size u.one)
    && fraction_fits u.for_fractions s.fraction) (scale_of_word s.word)

-- Tests whether adding a quantity to `t` nanoseconds does not overflow. The whole seconds of the
-- new sum must fit a `u64`. If nanoseconds are added, their number plus the nanoseconds of `t`
-- below a second must fit one, too.
abbrev pub has_room : ℕ → Quantity → Bool
has_room t (Nanos n) = fits_u64 (t % nanos_per_second + n) && fits_u64 ((t + n) / nanos_per_second)
has_room t (Seconds n) = fits_u64 (t / nanos_per_second + n)

-- Each addition, made after those before it, does not overflow.
abbrev pub AllHaveRoom : List Quantity → Type 0
AllHaveRoom xs = (before after : List Quantity) (x : Quantity) → xs ≡ before ++ x ∷ after
    → has_room (total before) x ≡ true

-- Each span is formed and fits, and no addition overflows.
pub record WithinLimits (spans : List SpelledSpan) : Type 0 where
  pub formed : AllByRecursion Formed spans
  pub fit : AllByRecursion (λ s. fits s ≡ true) spans
  pub room : AllHaveRoom (additions spans)

-- The text is exactly `0` and `d` is 0, or the text is spans within the limits and `d` is their
-- sum.
pub data Accepted (text : List ℕ) (d : ℕ) : Type 0 where
  -- The text is exactly `0`.
  BareZero : text ≡ bare_zero → d ≡ 0 → Accepted text d
  -- The text is spans within the limits whose sum is `d`.
  SumOf : (spans : List SpelledSpan) → Reads text spans → WithinLimits spans → value spans ≡ d
      → Accepted text d
