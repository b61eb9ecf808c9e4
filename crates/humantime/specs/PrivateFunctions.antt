-- What private functions return: the readers of a span and of a timestamp, and the writer of a
-- duration.
use Rattle.std.specs.Prelude.{◌≡◌, true, false, ℕ, nat_lt, List, [], ◌∷◌, Option, Some, None, Result, Ok, Err, if◌then◌else◌, option_map, chars, ◌*◌, ◌/◌, ◌^◌, ◌==◌, ◌+◌, ◌<◌, Bool, ◌&&◌, nat_le, pos, ℤ, length, drop, ◌≤◌, ◌++◌, take, decimal, bytes_eq, ltb, not, filter, SomeIff}
use Rattle.std.specs.Borrow.{Bor}
use Rattle.std.specs.Result.{result_map_both}
use Rattle.std.specs.Str.{all_ascii_digits, byte}
use Rattle.std.specs.List.{join_with_byte}
use Rattle.std.specs.Map.{lookup}
use Rattle.std.specs.Char.{len_utf8}
use Rattle.humantime.specs.declared.duration.error.DurationError.{DurationError}
use Rattle.humantime.specs.declared.duration.span.Number.{Number}
use Rattle.humantime.specs.declared.duration.span.Span.{Span}
use Rattle.humantime.specs.Characters.{begins, take_while, decimal_value, is_digit, in_number, is_whitespace, u64_max}
use Rattle.humantime.specs.Durations.{SpelledSpan, has_too_many_digits, digits_overflow, Quantity, Nanos, Seconds, Scale, words, size, with_size, is_exact_part}
use Rattle.humantime.specs.DurationErrors.{fault_of, number_of, after_number, after_point, after_fraction, after_word, span_of, may_follow_span, Fault}
use Rattle.humantime.specs.Prelude.{IsDate, SpanView, day_of, span_view}
use Rattle.humantime.specs.DurationResults.{spelled, view_at}
use Rattle.humantime.specs.Walks.{fault_at, has_bare_point, add}
use Rattle.humantime.specs.PrivateTypes.{FractionView, fraction_view, fraction_with, IsTail}
use Rattle.humantime.specs.declared.calendar.Date.{Date}
use Rattle.humantime.specs.declared.date.error.TimestampError.{TimestampError}
use Rattle.humantime.specs.declared.date.error.TimestampError.TheVariants.{InvalidDigit, InvalidFormat}
use Rattle.humantime.specs.Values.{seconds_per_day, second_of}
use Rattle.humantime.specs.Timestamps.{fraction_nanos, has_punctuation, has_digits, may_be_fraction}
use Rattle.humantime.specs.declared.duration.print.Writer.{Writer}
use Rattle.humantime.specs.PrintedDurations.{Suffix, printed_counts}

-- ==== The look-up of a unit in parts, by the size of the unit.

-- Returns the seconds of a quantity, or 0 for one of nanoseconds.
abbrev whole_seconds : Quantity → ℕ
whole_seconds (Nanos n) = 0
whole_seconds (Seconds n) = n

-- Returns those of the words whose units are below this number of seconds.
abbrev pub words_below : ℕ → List (List ℕ × Scale) → List (List ℕ × Scale)
words_below seconds ws = filter (λ w. ltb (whole_seconds w.1.one) seconds) ws

-- Returns the words of the units of at least this number of seconds.
abbrev pub words_from : ℕ → List (List ℕ × Scale)
words_from seconds = filter (λ w. not (ltb (whole_seconds w.1.one) seconds)) words

-- Returns the scale of a word, if it is a unit of at least this number of seconds.
unfoldable pub scale_from : ℕ → List ℕ → Option Scale
scale_from seconds word = lookup (bytes_eq word) (words_from seconds)

-- ==== What the readers of the parts of a span return, as functions of the characters of a text.

-- Returns the length in bytes of the whitespace character at the start of a text, or 0 if there is
-- none.
abbrev pub whitespace_len : List ℕ → ℕ
whitespace_len [] = 0
whitespace_len (c ∷ cs) = if is_whitespace c then len_utf8 c else 0

-- The result is the offset after the whitespace character at offset `at`, or `None` if there is
-- none.
abbrev pub IsAfterWhitespace : List ℕ → ℕ → Option ℕ → Type 0
IsAfterWhitespace text at result = SomeIff result (0 < whitespace_len (chars (drop at text)))
    (at + whitespace_len (chars (drop at text)))

-- What a reader returns: a value and the rest of the text, or `None` if the value is too large.
abbrev pub Read : Type 0 → Type 0
Read A = Option (A × List ℕ)

-- Returns the view of what a reader of the code returned: that of the value, and the characters of
-- the rest.
abbrev pub read_view : {A B : Type 0} → (A → B) → Option (A × Bor (List ℕ)) → Read B
read_view view r = option_map (λ x. (view x.0, chars x.1.now)) r

-- The text of a number, and that of its fraction, if any.
pub record NumberView : Type 0 where
  pub text : List ℕ
  pub fraction : Option (List ℕ)

-- Returns the view of a number.
abbrev pub number_view : Number → NumberView
number_view n = record {
  text = chars n.text.now;
  fraction = option_map (λ f. (fraction_view f).text) n.fraction;
}

-- Reads the number at the start of a text, which must fit in a `u64`.
abbrev pub read_number : List ℕ → Read NumberView
read_number text =
    if nat_lt u64_max (decimal_value (number_of text)) then None
    else Some (record { text = take_while in_number text; fraction = None }, after_number text)

-- Reads the digits of a fraction at the start of a text, if any, of which at most 19 may precede
-- the trailing zeros.
abbrev pub read_fraction : List ℕ → Read FractionView
read_fraction text =
    if has_too_many_digits (Some (number_of text)) then None
    else Some (
      record { fraction = fraction_with (number_of text); text = take_while in_number text },
      after_number text,
    )

-- Returns a text without its first character if that is whitespace.
abbrev pub after_one_whitespace : List ℕ → List ℕ
after_one_whitespace [] = []
after_one_whitespace (c ∷ cs) = if is_whitespace c then cs else c ∷ cs

-- Reads up to one whitespace character after a word. A character other than a digit or whitespace
-- must not follow a word.
abbrev pub skip_span_end : List ℕ → Option (List ℕ)
skip_span_end text = if may_follow_span text then Some (after_one_whitespace text) else None

-- Reads the span at the start of `rest`.
abbrev pub read_span : List ℕ → List ℕ → Result (SpanView × List ℕ) Fault
read_span text rest = elim (fault_at text rest) [
  | None ↦ Ok (view_at text rest, after_one_whitespace (after_word rest))
  | Some e ↦ Err e
]

-- The view of a span that was read and the characters of the rest, or the fault of its error.
abbrev pub read_span_view : Result (Span × Bor (List ℕ)) DurationError
    → Result (SpanView × List ℕ) Fault
read_span_view r = result_map_both (λ x. (span_view x.0, chars x.1.now)) fault_of r

-- Returns the span that the slices of a `Span` hold.
abbrev pub spelled_in : Span → SpelledSpan
spelled_in s = let x = span_view s in spelled x.number x.fraction x.unit

-- The number at the start of `rest` and its fraction, if any, were read, and `after` follows them:
-- these are their texts, neither overflows, and no point is bare.
pub record IsNumberAt (rest : List ℕ) (number : Number) (after : List ℕ) : Type 0 where
  pub digit : begins is_digit (chars rest) ≡ true
  pub digits_fit : digits_overflow (span_of (chars rest)) ≡ false
  pub no_bare_point : has_bare_point (chars rest) ≡ false
  pub texts : number_view number ≡ record {
    text = take_while in_number (chars rest);
    fraction = option_map (take_while in_number) (after_point (after_number (chars rest)));
  }
  pub after_is : chars after ≡ after_fraction (chars rest)
  pub tail : IsTail rest after

-- ==== Quantities added to a duration of `t` nanoseconds. `None` means that a limit is broken.

-- Returns the sum of `t` and `number / 10^count` of a quantity, or `None` if that is not a whole
-- number or on overflow. If the unit has no fractions, there must be no digits.
abbrev pub add_fraction : ℕ → Option Quantity → ℕ → ℕ → Option ℕ
add_fraction t None number count = if count == 0 then Some t else None
add_fraction t (Some x) number count =
    if is_exact_part (size x) number count then add t (with_size x (number * size x / 10 ^ count))
    else None

-- ==== The results of private functions that parse and print timestamps.

-- Tests whether the text has at least 19 bytes, with punctuation and digits at their positions.
unfoldable pub has_layout : List ℕ → Bool
has_layout bytes = nat_le 19 (length bytes) && has_punctuation bytes && has_digits bytes

-- Returns the nanoseconds of the digits after a point, or `InvalidDigit` if a byte is not a digit.
abbrev pub digits_answer : List ℕ → Result ℕ TimestampError
digits_answer ds = if all_ascii_digits ds then Ok (fraction_nanos ds) else Err InvalidDigit

-- Returns the nanoseconds of the bytes between the seconds and the zone, or their error.
abbrev pub fraction_answer : List ℕ → Result ℕ TimestampError
fraction_answer part = if may_be_fraction part then digits_answer (drop 1 part)
    else Err InvalidFormat

-- The moment `t` is on this date, in this second after midnight.
pub record IsDateAndSecondOf (date : Date) (second_of_day : ℕ) (t : ℤ) : Type 0 where
  pub date_exists : IsDate date
  pub within_day : second_of_day < seconds_per_day
  pub sum : pos (day_of date * seconds_per_day + second_of_day) ≡ second_of t

-- ==== The text that a writer has written to its buffer.

-- Returns the bytes that the writer has written: the front of its buffer.
abbrev pub written : Writer → List ℕ
written w = take w.end w.bytes.now

-- The writer has written exactly these bytes, to the same buffer as before.
pub record HasWritten (old new : Writer) (all : List ℕ) : Type 0 where
  pub same_reference : new.bytes.ghost_name ≡ old.bytes.ghost_name
  pub room : length new.bytes.now ≡ length old.bytes.now
  pub bytes : written new ≡ all

-- The text was appended to what had been written before.
pub record Appends (old new : Writer) (text : List ℕ) : Type 0 where
  pub has : HasWritten old new (written old ++ text)
  pub end : new.end ≡ old.end + length text

-- Joins a text and the texts after it with single spaces, leaving out an empty first text.
abbrev pub joined_after : List ℕ → List (List ℕ) → List ℕ
joined_after [] ps = join_with_byte (byte " ") ps
joined_after (b ∷ bs) ps = join_with_byte (byte " ") ((b ∷ bs) ∷ ps)

-- Returns an upper bound for the number of bytes of a count: its digits, its suffix and the `s` of
-- the plural.
abbrev pub most_bytes : ℕ → Suffix → ℕ
most_bytes count suffix =
    length (decimal count) + length suffix.unit + (if suffix.has_plural then 1 else 0)

-- The count was appended, after a space if it is not the first one. A count of zero is left out.
pub record AppendsCount (old new : Writer) (count : ℕ) (suffix : Suffix) : Type 0 where
  pub has : HasWritten old new
      (joined_after (written old) (printed_counts (count ∷ []) (suffix ∷ [])))
  pub end : new.end ≤ old.end + 1 + most_bytes count suffix
  pub first : old.end ≡ 0 → new.end ≤ most_bytes count suffix
