-- The fault of a text of a duration: its first error.
use Rattle.std.specs.Prelude.{ℕ, Bool, true, false, List, [], ◌∷◌, Option, Some, None, IsSome, if◌then◌else◌, ◌≡◌, ◌≢◌, ◌⊎◌, ◌++◌, drop, option_map, unwrap_or, encode_utf8_all, ◌<◌, ◌≤◌, length, Result, ⊤, slice_range, codes, decimal}
use Rattle.std.specs.Borrow.{Bor}
use Rattle.std.specs.Str.{IsCharBoundary}
use Rattle.std.specs.Result.{result_map_both}
use Rattle.humantime.specs.Characters.{take_while, drop_while, begins, ends, decimal_value, is_letter, in_number, is_point, digits, is_whitespace, is_digit, byte_length, offset_of, bare_zero, micro_suffix}
use Rattle.humantime.specs.Durations.{SpelledSpan, SpellsFront, scale_of_word, digits_overflow, WithinLimits}
use Rattle.humantime.specs.declared.duration.error.DurationError.{DurationError}
use Rattle.humantime.specs.declared.duration.error.DurationError.TheVariants as errors

-- ==== The fault of a text that is not accepted, by a table of ten rows, of which exactly one
-- applies. A text is its list of characters; offsets count its bytes, and a fault holds the bytes
-- of its unit.

-- Returns the digits of the number at the start of `rest`.
abbrev pub number_of : List ℕ → List ℕ
number_of rest = digits (take_while in_number rest)

-- Returns what follows the number at the start of `rest`.
abbrev pub after_number : List ℕ → List ℕ
after_number rest = drop_while in_number rest

-- Returns what follows the point at the start of a text, if it begins with one.
abbrev pub after_point : List ℕ → Option (List ℕ)
after_point text = if begins is_point text then Some (drop 1 text) else None

-- Returns the digits of the fraction after the number at the start of `rest`, if a point follows
-- the number.
abbrev pub fraction_of : List ℕ → Option (List ℕ)
fraction_of rest = option_map number_of (after_point (after_number rest))

-- Returns what follows the number and the fraction at the start of `rest`.
abbrev pub after_fraction : List ℕ → List ℕ
after_fraction rest =
    unwrap_or (option_map after_number (after_point (after_number rest))) (after_number rest)

-- Returns the letters after the number and the fraction at the start of `rest`.
abbrev pub word_of : List ℕ → List ℕ
word_of rest = take_while is_letter (after_fraction rest)

-- Returns what follows the number, the fraction and the letters at the start of `rest`.
abbrev pub after_word : List ℕ → List ℕ
after_word rest = drop_while is_letter (after_fraction rest)

-- Returns the span at the start of `rest`. Its number, fraction and word are each as long as
-- possible.
abbrev pub span_of : List ℕ → SpelledSpan
span_of rest = record { number = number_of rest; fraction = fraction_of rest; word = word_of rest }

-- A fault is the first error of a text as data: its byte offsets, and the bytes of its unit.
pub data Fault : Type 0 where
  InvalidCharacter : (at : ℕ) → Fault
  NumberExpected : (at : ℕ) → Fault
  UnknownUnit : (start : ℕ) → (end : ℕ) → (unit : List ℕ) → (value : ℕ) → Fault
  NumberOverflow : Fault
  Empty : Fault

-- The text is a front that represents the spans, followed by a rest that does not begin with
-- whitespace.
pub record Split (text front : List ℕ) (spans : List SpelledSpan) (rest : List ℕ) : Type 0 where
  pub whole : text ≡ front ++ rest
  pub spelled : SpellsFront front spans
  pub no_whitespace : begins is_whitespace rest ≡ false

-- The rest begins with a number, and neither the number nor its fraction overflows.
pub record BeginsWithNumber (rest : List ℕ) : Type 0 where
  pub digit : begins is_digit rest ≡ true
  pub digits_fit : digits_overflow (span_of rest) ≡ false

-- Tests whether a text may follow a span: it is empty, or begins with a digit or whitespace.
abbrev pub may_follow_span : List ℕ → Bool
may_follow_span [] = true
may_follow_span (c ∷ cs) = in_number c

-- The rest begins with a whole span: a number, a fraction, if any, that has digits, and the word of
-- a unit, after which the span may end.
pub record BeginsWithSpan (rest : List ℕ) : Type 0 where
  pub number : BeginsWithNumber rest
  pub digits : fraction_of rest ≢ Some []
  pub unit : IsSome (scale_of_word (word_of rest))
  pub ended : may_follow_span (after_word rest) ≡ true

-- The first nine rows of the table: after the spans, the rest does not begin with a whole span, and
-- the fault is `e`.
pub data IsStoppedWith (text front : List ℕ) (spans : List SpelledSpan) (rest : List ℕ)
    (e : Fault) : Type 0 where
  -- The text is empty or only whitespace.
  OnlyWhitespace : spans ≡ [] → rest ≡ [] → e ≡ Empty → IsStoppedWith text front spans rest e
  -- A character other than a digit is at the start, or after a span and whitespace.
  NoNumber : rest ≢ [] → begins is_digit rest ≡ false
      → (spans ≡ []) ⊎ (ends is_whitespace front ≡ true)
      → e ≡ NumberExpected (offset_of text rest) → IsStoppedWith text front spans rest e
  -- The number or its fraction overflows, whatever follows.
  DigitsOverflow : begins is_digit rest ≡ true → digits_overflow (span_of rest) ≡ true
      → e ≡ NumberOverflow
      → IsStoppedWith text front spans rest e
  -- A character other than a point or a letter follows the number.
  NoLetterAfterNumber : BeginsWithNumber rest → fraction_of rest ≡ None → word_of rest ≡ []
      → after_word rest ≢ []
      → e ≡ InvalidCharacter (offset_of text (after_word rest))
      → IsStoppedWith text front spans rest e
  -- A point has no digits, and then a letter follows or the text ends. The offset is that of the
  -- point.
  PointWithoutDigits : BeginsWithNumber rest → fraction_of rest ≡ Some []
      → (word_of rest ≢ []) ⊎ (after_word rest ≡ [])
      → e ≡ InvalidCharacter (offset_of text (after_number rest))
      → IsStoppedWith text front spans rest e
  -- A character other than a letter follows a point and its digits, if any.
  NoLetterAfterPoint : BeginsWithNumber rest → IsSome (fraction_of rest) → word_of rest ≡ []
      → after_word rest ≢ []
      → e ≡ InvalidCharacter (offset_of text (after_word rest))
      → IsStoppedWith text front spans rest e
  -- A character other than a digit or whitespace follows the letters, whether they are a unit or
  -- not.
  WordNotEnded : BeginsWithNumber rest → fraction_of rest ≢ Some [] → word_of rest ≢ []
      → may_follow_span (after_word rest) ≡ false
      → e ≡ InvalidCharacter (offset_of text (after_word rest))
      → IsStoppedWith text front spans rest e
  -- The text ends without a unit.
  NoWord : BeginsWithNumber rest → fraction_of rest ≢ Some [] → word_of rest ≡ []
      → after_word rest ≡ []
      → e ≡ UnknownUnit (byte_length text) (byte_length text) [] (decimal_value (number_of rest))
      → IsStoppedWith text front spans rest e
  -- The word is not a unit.
  UnknownWord : BeginsWithNumber rest → fraction_of rest ≢ Some [] → word_of rest ≢ []
      → scale_of_word (word_of rest) ≡ None
      → may_follow_span (after_word rest) ≡ true
      → e ≡ UnknownUnit (offset_of text (after_fraction rest)) (offset_of text (after_word rest))
      (encode_utf8_all (word_of rest)) (decimal_value (number_of rest))
      → IsStoppedWith text front spans rest e

-- The tenth row of the table: the rest begins with a whole span, and the spans together with this
-- one break a limit.
pub record BreaksLimit (spans : List SpelledSpan) (rest : List ℕ) (e : Fault) : Type 0 where
  pub span : BeginsWithSpan rest
  pub beyond : ¬ (WithinLimits (spans ++ span_of rest ∷ []))
  pub fault : e ≡ NumberOverflow

-- The text is not exactly `0`. It is spans within the limits followed by a rest, for which a row of
-- the table gives the fault.
pub record HasFault (text : List ℕ) (e : Fault) : Type 0 where
  pub not_zero : text ≢ bare_zero
  pub front : List ℕ
  pub rest : List ℕ
  pub spans : List SpelledSpan
  pub split : Split text front spans rest
  pub within : WithinLimits spans
  pub row : IsStoppedWith text front spans rest e ⊎ BreaksLimit spans rest e

-- ==== The contents of a duration's error, and its message. A text is its list of bytes.

-- Returns the fault of an error.
abbrev pub fault_of : DurationError → Fault
fault_of (errors.InvalidCharacter at) = InvalidCharacter at
fault_of (errors.NumberExpected at) = NumberExpected at
fault_of (errors.UnknownUnit start end unit value) = UnknownUnit start end unit.now value
fault_of errors.NumberOverflow = NumberOverflow
fault_of errors.Empty = Empty

-- Replaces the error of a result with its fault.
abbrev pub result_view : Result ℕ DurationError → Result ℕ Fault
result_view r = result_map_both (λ d. d) fault_of r

-- Replaces the text of a result with its bytes, or the error with its fault.
abbrev pub text_result_view : Result (Bor (List ℕ)) DurationError → Result (List ℕ) Fault
text_result_view r = result_map_both (λ t. t.now) fault_of r

-- A character of the text begins at this byte offset.
abbrev pub IsCharStartIn : List ℕ → ℕ → Type 0
IsCharStartIn bytes at = (at < length bytes) × IsCharBoundary bytes at

-- The offsets are in order and lie on `char` boundaries of the text.
abbrev pub IsRangeIn : List ℕ → ℕ → ℕ → Type 0
IsRangeIn bytes start end = (start ≤ end) × IsCharBoundary bytes start × IsCharBoundary bytes end

-- The part is the slice of the text between two offsets, which lie on `char` boundaries.
abbrev pub IsPartOf : List ℕ → List ℕ → ℕ → ℕ → Type 0
IsPartOf bytes part start end = IsRangeIn bytes start end × (part ≡ slice_range bytes start end)

-- If the error has one offset, a character begins there. If it has a unit, that is the slice
-- between its offsets.
abbrev pub PointsInto : List ℕ → DurationError → Type 0
PointsInto bytes (errors.InvalidCharacter at) = IsCharStartIn bytes at
PointsInto bytes (errors.NumberExpected at) = IsCharStartIn bytes at
PointsInto bytes (errors.UnknownUnit start end unit value) = IsPartOf bytes unit.now start end
PointsInto bytes errors.NumberOverflow = ⊤
PointsInto bytes errors.Empty = ⊤

-- Returns the byte offset to which a fault points: 0 for `Empty`, and `None` for `NumberOverflow`.
abbrev pub fault_offset : Fault → Option ℕ
fault_offset (InvalidCharacter at) = Some at
fault_offset (NumberExpected at) = Some at
fault_offset (UnknownUnit start end unit value) = Some start
fault_offset NumberOverflow = None
fault_offset Empty = Some 0

-- Returns the message for an unknown unit, or for a missing one if the unit is empty.
abbrev pub unit_message : List ℕ → ℕ → List ℕ
unit_message [] value = codes "time unit needed, for example " ++ decimal value ++ codes "sec or "
    ++ decimal value ++ codes "ms"
unit_message (b ∷ bs) value =
    codes "unknown time unit \"" ++ (b ∷ bs)
    ++ (codes "\", supported units: ns, us/" ++ micro_suffix
    ++ codes ", ms, sec, min, hours, days, weeks, months, years (and few variations)")

-- Returns the message of a fault.
abbrev pub fault_message : Fault → List ℕ
fault_message (InvalidCharacter at) = codes "invalid character at " ++ decimal at
fault_message (NumberExpected at) = codes "expected number at " ++ decimal at
fault_message (UnknownUnit start end unit value) = unit_message unit value
fault_message NumberOverflow =
    codes "number is too large or cannot be represented without a lack of precision (values below 1ns are not supported)"
fault_message Empty = codes "value was empty"
