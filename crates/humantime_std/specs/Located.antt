-- The range of the bytes that are wrong in a text that is not a timestamp or a duration: the offset
-- of the first, and that after the last. A text is its list of bytes.
use Rattle.std.specs.Prelude.{◌≡◌, chars, ◌+◌, ◌==◌, ◌||◌, ◌&&◌, nat_eq, nat_le, not, min}
use Rattle.std.specs.Prelude.{if◌then◌else◌, ⊤, ℕ, zero, suc, Bool, true, false, List, [], ◌∷◌}
use Rattle.std.specs.Prelude.{length, drop, slice_index, codes, Option, option_map}
use Rattle.std.specs.Char.{is_ascii_digit}
use Rattle.std.specs.Int.{is_in_range}
use Rattle.std.specs.List.{prefix_len, starts_with, zip}
use Rattle.std.specs.Result.{result_err}
use Rattle.std.specs.Str.{byte}
use Rattle.humantime.specs.declared.date.error.TimestampError.{TimestampError}
use Rattle.humantime.specs.declared.date.error.TimestampError.TheVariants.{OutOfRange}
use Rattle.humantime.specs.Calendar.{is_valid}
use Rattle.humantime.specs.Characters.{byte_length, drop_while, is_whitespace, offset_of}
use Rattle.humantime.specs.DurationErrors.{Fault, InvalidCharacter, NumberExpected, UnknownUnit}
use Rattle.humantime.specs.DurationErrors.{NumberOverflow, Empty, BeginsWithSpan, HasFault}
use Rattle.humantime.specs.DurationErrors.{after_word, span_of}
pub use Rattle.humantime.specs.DurationErrors.{IsRangeIn}
use Rattle.humantime.specs.Durations.{SpelledSpan, WithinLimits, digits_overflow}
use Rattle.humantime.specs.TimestampResults.{strict_answer, weak_answer}
use Rattle.humantime.specs.Timestamps.{date_time_of}
use Rattle.humantime_std.specs.declared.located.Located.{Located}

-- Tests whether a byte of UTF-8 continues a character.
abbrev pub is_continuation : ℕ → Bool
is_continuation = is_in_range 128 191

-- Returns the offset after the character that begins at an offset, or the end of the text if none
-- does.
unfoldable pub char_end : List ℕ → ℕ → ℕ
char_end text at = min (at + 1 + prefix_len is_continuation (drop (at + 1) text)) (length text)

-- ---- Timestamps

-- The first 19 bytes: `0` is any digit, a space is a `T` or, in the weak format, a space, and
-- another byte is that byte.
abbrev pub layout : List ℕ
layout = codes "0000-00-00 00:00:00"

-- Tests whether a byte can stand at a place of the layout.
abbrev pub fits : Bool → ℕ → ℕ → Bool
fits strict place b =
    if place == byte "0" then is_ascii_digit b
    else if place == byte " " then (b == byte "T" || (b == byte " " && not strict))
    else (b == place)

-- Returns the number of bytes at the front of a text that fit the layout.
unfoldable pub fit_len : Bool → List ℕ → ℕ
fit_len strict text = prefix_len (λ p. fits strict p.0 p.1) (zip layout text)

-- Returns the range of the first number that is out of its bounds.
unfoldable pub wrong_field : List ℕ → ℕ × ℕ
wrong_field text =
    let fields = date_time_of text in
    let date = fields.date in
    if not (nat_le 1970 date.year) then (0, 4)
    else if not (is_in_range 1 12 date.month) then (5, 7)
    else if not (is_valid date.year date.month date.day) then (8, 10)
    else if not (nat_le fields.hour 23) then (11, 13)
    else if not (nat_le fields.minute 59) then (14, 16)
    else (17, 19)

-- Returns the offset after the seconds and the fraction, if any.
unfoldable pub fraction_end : List ℕ → ℕ
fraction_end text =
    if slice_index text 19 == byte "." then 20 + prefix_len is_ascii_digit (drop 20 text) else 19

-- Returns the length of the zone at the front of a text, or 0 if there is none.
unfoldable pub zone_len : List ℕ → ℕ
zone_len rest = if starts_with nat_eq rest (codes "Z") then 1
    else if starts_with nat_eq rest (codes "+00:00") then 6 else 0

-- Returns the length of the longest timestamp at the front of a text: with its fraction, if any,
-- and its zone, if any.
abbrev pub timestamp_len : List ℕ → ℕ
timestamp_len text = fraction_end text + zone_len (drop (fraction_end text) text)

-- Returns the range of an error of a text that has the layout: the first number that is out of its
-- bounds, or what follows the longest timestamp at the front.
abbrev pub range_after_layout : List ℕ → TimestampError → ℕ × ℕ
range_after_layout text OutOfRange = wrong_field text
range_after_layout text _ = (timestamp_len text, length text)

-- Returns the range of an error: the first character that does not fit the layout, or the end of
-- the text if it ends there; if the text has the layout, the range after it.
abbrev pub error_range : Bool → List ℕ → TimestampError → ℕ × ℕ
error_range strict text error =
    let n = fit_len strict text in
    if n == 19 then range_after_layout text error else (n, char_end text n)

-- Returns an error of a text with its range.
abbrev pub locate : Bool → List ℕ → TimestampError → Located TimestampError
locate strict text error =
    let range = error_range strict text error in
    record { error = error; start = range.0; end = range.1 }

-- Returns the error of a text in the weak format, if any, with its range.
abbrev pub weak_error : List ℕ → Option (Located TimestampError)
weak_error text = option_map (locate false text) (result_err (weak_answer text))

-- Returns the error of a text in the strict format, if any, with its range.
abbrev pub strict_error : List ℕ → Option (Located TimestampError)
strict_error text = option_map (locate true text) (result_err (strict_answer text))

-- ---- Durations

-- The text, as characters, overflows at the span that begins at `start`: the spans before this one
-- are within the limits, and with it they are not, or its number or its fraction is too long. The
-- range ends after this span, or with the text if the number or the fraction is too long.
pub record OverflowsAt (text : List ℕ) (start end : ℕ) : Type 0 where
  pub fault : HasFault text NumberOverflow
  pub at_start : start ≡ offset_of text fault.rest
  pub at_end : end ≡ (if digits_overflow (span_of fault.rest) then byte_length text
      else offset_of text (after_word fault.rest))

-- The range of a duration's fault: the character that is wrong, the unit, the span at which the
-- text overflows, or the whole text.
abbrev pub IsFaultRange : List ℕ → Fault → ℕ → ℕ → Type 0
IsFaultRange text (InvalidCharacter at) start end = (start ≡ at) × (end ≡ char_end text at)
IsFaultRange text (NumberExpected at) start end = (start ≡ at) × (end ≡ char_end text at)
IsFaultRange text (UnknownUnit from to unit value) start end = (start ≡ from) × (end ≡ to)
IsFaultRange text NumberOverflow start end = OverflowsAt (chars text) start end
IsFaultRange text Empty start end = (start ≡ 0) × (end ≡ length text)

-- ---- The spans at the front of a text, which is its list of characters: what the contracts of
-- private functions cite

-- Returns the text without its leading whitespace.
abbrev pub trim_front : List ℕ → List ℕ
trim_front text = drop_while is_whitespace text

-- Returns the first `k` spans of a text that begins with one.
abbrev pub take_spans : ℕ → List ℕ → List SpelledSpan
take_spans zero rest = []
take_spans (suc k) rest = span_of rest ∷ take_spans k (trim_front (after_word rest))

-- Returns what follows the first `k` spans and the whitespace after each.
abbrev pub drop_spans : ℕ → List ℕ → List ℕ
drop_spans zero rest = rest
drop_spans (suc k) rest = drop_spans k (trim_front (after_word rest))

-- The text begins with `k` whole spans.
abbrev pub BeginsSpans : ℕ → List ℕ → Type 0
BeginsSpans zero rest = ⊤
BeginsSpans (suc k) rest = BeginsWithSpan rest × BeginsSpans k (trim_front (after_word rest))

-- Returns the offset of what follows the first `k` spans and the whitespace after each: there the
-- span with the index `k` begins, if there is one.
abbrev pub span_start : ℕ → List ℕ → ℕ
span_start k text = offset_of text (drop_spans k (trim_front text))

-- Returns the offset after the word of the span at an index.
abbrev pub span_end : ℕ → List ℕ → ℕ
span_end k text = offset_of text (after_word (drop_spans k (trim_front text)))

-- The text begins with `k` whole spans, after any whitespace, and they are within the limits.
pub record BeginsWithin (text : List ℕ) (k : ℕ) : Type 0 where
  pub begins : BeginsSpans k (trim_front text)
  pub within : WithinLimits (take_spans k (trim_front text))
