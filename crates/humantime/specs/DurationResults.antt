-- The items of a text of a duration, and the results of the calls on durations.
use Rattle.std.specs.Prelude.{ℕ, Bool, true, ◌&&◌, ◌==◌, length, List, Option, map, option_map, Result, Ok, Err, ◌≡◌, ◌↔◌, ◌/◌, ◌%◌, [], ◌∷◌, IfErr, bytes_eq, chars, if◌then◌else◌}
use Rattle.std.specs.Result.{result_map_both}
use Rattle.std.specs.Str.{drop_trailing_whitespace}
use Rattle.humantime.specs.Characters.{take_while, drop_while, decimal_value, is_whitespace, in_number, digits, offset_of, bare_zero}
use Rattle.humantime.specs.Durations.{SpelledSpan, Accepted}
use Rattle.humantime.specs.DurationErrors.{number_of, after_number, after_point, word_of, after_word, Fault, result_view, PointsInto, HasFault}
use Rattle.humantime.specs.Walks.{walk_from, stop_at, items, sum_spans}
use Rattle.humantime.specs.Items.{SpanView, items_of}
use Rattle.humantime.specs.PrintedDurations.{weights, suffixes, printed_counts, joined_or_zero}
use Rattle.humantime.specs.declared.duration.error.DurationError.{DurationError}

-- ==== The items of a text, read from left to right, and what each borrows from it: the reference
-- for the iterator over spans.

-- Removes leading and trailing whitespace.
abbrev pub trimmed : List ℕ → List ℕ
trimmed cs = drop_trailing_whitespace (drop_while is_whitespace cs)

-- The slice from the first to the last digit of the number at the start of `rest`.
abbrev pub number_slice : List ℕ → List ℕ
number_slice rest = drop_trailing_whitespace (take_while in_number rest)

-- The slice from the first to the last digit of the fraction, if `after`, the text after the
-- number, begins with a point.
abbrev pub fraction_slice : List ℕ → Option (List ℕ)
fraction_slice after =
    option_map (λ digits. trimmed (take_while in_number digits)) (after_point after)

-- The slices, offsets and number of the span at the start of `rest`.
abbrev pub view_at : List ℕ → List ℕ → SpanView
view_at text rest = record {
  number = number_slice rest;
  fraction = fraction_slice (after_number rest);
  unit = word_of rest;
  start = offset_of text rest;
  end = offset_of text (after_word rest);
  value = decimal_value (number_of rest);
}

-- The items from `rest` on: the views of the spans, followed by the fault that stops them, if any.
-- `at_start` is true if no span precedes `rest`.
unfoldable pub items_from : Bool → List ℕ → List ℕ → List (Result SpanView Fault)
items_from at_start text rest =
    let w = walk_from text rest in
    items_of (map (view_at text) w.starts) (stop_at (at_start && length w.starts == 0) text w.rest)

-- All items of a text.
abbrev pub item_views : List ℕ → List (Result SpanView Fault)
item_views text = items_from true text (drop_while is_whitespace text)

-- The span that has these slices.
abbrev pub spelled : List ℕ → Option (List ℕ) → List ℕ → SpelledSpan
spelled number fraction unit =
    record { number = digits number; fraction = option_map digits fraction; word = unit }

-- The span of an item.
abbrev pub span_in : Result SpanView Fault → Result SpelledSpan Fault
span_in (Ok x) = Ok (spelled x.number x.fraction x.unit)
span_in (Err e) = Err e

-- ==== The result of parsing a duration, and the text of a duration, each as one function.

-- Returns the duration that a text denotes, in nanoseconds, or its fault.
unfoldable pub duration_answer : List ℕ → Result ℕ Fault
duration_answer text =
    if bytes_eq text bare_zero then Ok 0
    else sum_spans 0 (items_of (items text).spans (items text).stop)

-- The result of parsing a text is the duration that it denotes if and only if the text is accepted,
-- and otherwise its fault, which points into the text.
pub record IsDurationAnswer (bytes : List ℕ) (r : Result ℕ DurationError) : Type 0 where
  pub value : (v : ℕ) → (result_view r ≡ Ok v) ↔ Accepted (chars bytes) v
  pub fault : (e : Fault) → (result_view r ≡ Err e) ↔ HasFault (chars bytes) e
  pub answer : result_view r ≡ duration_answer (chars bytes)
  pub offsets : IfErr r (PointsInto bytes)

-- Splits `d` into counts by division: each count is as large as possible, and the remainder is
-- split by the weights that follow.
abbrev pub divided : List ℕ → ℕ → List ℕ
divided [] d = []
divided (w ∷ ws) d = d / w ∷ divided ws (d % w)

-- Returns the printed text of `d` nanoseconds.
unfoldable pub duration_text : ℕ → List ℕ
duration_text d = joined_or_zero (printed_counts (divided weights d) suffixes)

-- Returns the canonical text of the duration that a text denotes, or its fault.
unfoldable pub canonical_answer : List ℕ → Result (List ℕ) Fault
canonical_answer text = result_map_both duration_text (λ e. e) (duration_answer text)
