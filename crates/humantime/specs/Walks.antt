-- Parsing from left to right: the functions by which the results of the calls are defined. Theorems
-- in `proofs` relate them to the definitions in `Durations` and `DurationErrors`.
use Rattle.std.specs.Prelude.{ℕ, zero, suc, ◌+◌, Bool, true, not, ◌&&◌, ◌==◌, List, [], ◌∷◌, length, Option, Some, None, is_some, Result, Ok, Err, if◌then◌else◌, map, encode_utf8_all}
use Rattle.humantime.specs.Characters.{begins, drop_while, decimal_value, is_whitespace, is_digit, is_letter, offset_of}
use Rattle.humantime.specs.Durations.{Quantity, scale_of_word, SpelledSpan, quantity_nanos, additions_of, fits, is_some_and, has_room, digits_overflow}
use Rattle.humantime.specs.DurationErrors.{number_of, after_number, fraction_of, after_fraction, word_of, after_word, span_of, may_follow_span, Fault, InvalidCharacter, NumberExpected, UnknownUnit, NumberOverflow, Empty}
use Rattle.humantime.specs.Items.{SpansAndStop}

-- Tests whether a text is empty or begins with a letter.
abbrev pub at_letter_or_end : List ℕ → Bool
at_letter_or_end [] = true
at_letter_or_end (c ∷ cs) = is_letter c

-- Tests whether a point without digits follows the number at the start of `rest`, and then a letter
-- or the end of the text.
abbrev pub has_bare_point : List ℕ → Bool
has_bare_point rest =
    is_some_and (λ ds. length ds == 0) (fraction_of rest) && at_letter_or_end (after_fraction rest)

-- Returns the fault at the start of `rest`, if any. The first line that applies decides:
-- - `rest` does not begin with a digit.
-- - The number or the fraction overflows.
-- - The point has no digits, and a letter or the end follows it.
-- - A character other than a digit or whitespace follows the word, which may be empty.
-- - The word is not a unit.
unfoldable pub fault_at : List ℕ → List ℕ → Option Fault
fault_at text rest =
    if not (begins is_digit rest) then Some (NumberExpected (offset_of text rest))
    else if digits_overflow (span_of rest) then Some NumberOverflow
    else if has_bare_point rest then Some (InvalidCharacter (offset_of text (after_number rest)))
    else if not (may_follow_span (after_word rest))
    then Some (InvalidCharacter (offset_of text (after_word rest)))
    else if is_some (scale_of_word (word_of rest)) then None
    else Some (UnknownUnit (offset_of text (after_fraction rest)) (offset_of text (after_word rest))
    (encode_utf8_all (word_of rest)) (decimal_value (number_of rest)))

-- The rest of the text at the start of each span, and the rest after them, where a fault stops them
-- or the text ends.
pub record Walk : Type 0 where
  pub starts : List (List ℕ)
  pub rest : List ℕ

-- The walk over at most `n` spans from a rest on.
unfoldable pub walk : ℕ → List ℕ → List ℕ → Walk
walk zero text rest = record { starts = []; rest = rest }
walk (suc n) text rest = elim (fault_at text rest) [
  | None ↦ let w = walk n text (drop_while is_whitespace (after_word rest)) in
      record { starts = rest ∷ w.starts; rest = w.rest }
  | Some e ↦ record { starts = []; rest = rest }
]

-- The walk over all spans from `rest` on.
abbrev pub walk_from : List ℕ → List ℕ → Walk
walk_from text rest = walk (suc (length rest)) text rest

-- The walk over all spans of a text.
abbrev pub walk_of : List ℕ → Walk
walk_of text = walk_from text (drop_while is_whitespace text)

-- The fault at the rest after the spans, if any. At the end of the text, it is `Empty` if there are
-- no spans.
abbrev pub stop_at : Bool → List ℕ → List ℕ → Option Fault
stop_at no_spans text [] = if no_spans then Some Empty else None
stop_at no_spans text (c ∷ cs) = fault_at text (c ∷ cs)

-- The spans of a text, and the fault that stops them, if any.
unfoldable pub items : List ℕ → SpansAndStop
items text =
    let w = walk_of text in
    record { spans = map span_of w.starts; stop = stop_at (length w.starts == 0) text w.rest }

-- Returns the sum of `t` and a quantity, or `None` on overflow.
abbrev pub add : ℕ → Quantity → Option ℕ
add t x = if has_room t x then Some (t + quantity_nanos x) else None

-- Returns the sum of `t` and these quantities, or `None` if one of them overflows.
abbrev pub add_all : ℕ → List Quantity → Option ℕ
add_all t [] = Some t
add_all t (x ∷ xs) = elim (add t x) [ None ↦ None | Some u ↦ add_all u xs ]

-- Returns the sum of `t` and a span, or `None` if the span breaks a limit.
unfoldable pub add_span : ℕ → SpelledSpan → Option ℕ
add_span t s = if fits s then add_all t (additions_of s) else None

-- Returns the sum of `t` and the spans, `NumberOverflow` at the first span that breaks a limit, or
-- the fault that stops them, if any.
unfoldable pub sum_spans : ℕ → List (Result SpelledSpan Fault) → Result ℕ Fault
sum_spans t [] = Ok t
sum_spans t (Err e ∷ items) = Err e
sum_spans t (Ok s ∷ items) =
    elim (add_span t s) [ None ↦ Err NumberOverflow | Some u ↦ sum_spans u items ]
