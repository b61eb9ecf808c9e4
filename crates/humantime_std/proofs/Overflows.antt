-- The first span up to whose end a text overflows.
use Rattle.humantime.specs.Characters.{bare_zero, take_while, in_number, is_point, is_whitespace, offset_of}
use Rattle.humantime.specs.DurationErrors.{BeginsWithSpan, BreaksLimit, Fault, IsRangeIn, IsStoppedWith, NumberOverflow, after_number, after_word, span_of, word_of}
use Rattle.humantime.specs.DurationResults.{IsDurationAnswer, duration_answer, items_from, view_at}
use Rattle.humantime.specs.Durations.{Reads, SpelledSpan, WithinLimits}
use Rattle.humantime.specs.Items.{AreItems, Items}
use Rattle.humantime.specs.SpanResults.{GivesItem, item_of, items_left, span_view}
use Rattle.humantime.specs.Walks.{walk, fault_at, stop_at}
use Rattle.std.proofs.Common.{◌≡◌, ◌≢◌, ◌==◌, ◌↔◌, ◌⊎◌, ℕ, zero, suc, ◌-◌, ◌≤◌, Bool, true, false, List, [], ◌∷◌, ◌++◌, length, take, drop, Option, Some, None, Result, Err, IsUtf8, IsCharBoundary, SomeIff, chars, option_map, unwrap_or, refl, sym, ap, ◌∙◌, inl, inr, arith, append_assoc, append-nil, length-append, slice_get, encode_utf8_all, IsOk, option_and_then}
use Rattle.std.proofs.lemmas.Grind.{common_steps}
use Rattle.std.proofs.lemmas.Option.{gets}
use Rattle.std.proofs.lemmas.Str.{IsCharBoundary-at_seam, IsCharBoundary-end, chars-encodes, encodes-append, encodes-chars, length-le-encodes, scalars-chars}
use Rattle.std.specs.Result.{result_ok}
use Rattle.std.specs.Str.{trim_start}
use Rattle.std.specs.Iterator.{SkipsThenYields}
use Rattle.std.proofs.Math.Utf8.{scalars}
use Rattle.std.proofs.lemmas.Iterator.Consumers.{YieldsList-from_shown, nth_from_yields_List}
use Rattle.humantime.specs.declared.duration.error.DurationError.{DurationError}
use Rattle.humantime.specs.declared.duration.iter.SpanIter.{SpanIter}
use Rattle.humantime.specs.declared.duration.span.Span.{Span}
use Rattle.humantime.proofs.Outcomes.{fault_from_outcome, items_whole, outcome_summed}
use Rattle.humantime.proofs.Characters.{drop_while_shorter, take_while-drop_while}
use Rattle.humantime.proofs.TextWalks.{IsReadTo, begun, not_zero, read_on, stops_here, walk-go}
use Rattle.humantime.proofs.Spellings.{span_has_no_fault, no_fault_is_span, next_of, next_smaller, point_and_digits}
use Rattle.humantime.proofs.Items.{one_span_view}
use Rattle.humantime.proofs.Slices.{start_trimmed}
use Rattle.humantime_std.specs.Located.{BeginsSpans, BeginsWithin, OverflowsAt, trim_front}
use Rattle.humantime_std.specs.Located.{drop_spans, span_end, span_start, take_spans}

-- ---- Offsets

-- The characters of each of two lists are scalar values if those of both are.
pub scalars_parts : (xs ys : List ℕ) → scalars (xs ++ ys) ≡ true
    → (scalars xs ≡ true) × (scalars ys ≡ true)
scalars_parts [] ys h = (refl, h)
scalars_parts (x ∷ xs) ys h = grind (arith, (scalars_parts xs ys))

-- The characters before and after an offset.
cut_at : (bs front rest : List ℕ) → IsUtf8 bs → chars bs ≡ front ++ rest
    → IsCharBoundary bs (offset_of (chars bs) rest)
    × (chars (take (offset_of (chars bs) rest) bs) ≡ front)
    × (chars (drop (offset_of (chars bs) rest) bs) ≡ rest)
cut_at bs front rest utf8 whole =
    let parts = scalars_parts front rest (ap scalars (sym whole) ∙ scalars-chars bs utf8) in
    let bytes : bs ≡ encode_utf8_all front ++ encode_utf8_all rest =
    sym (encodes-chars bs utf8) ∙ ap encode_utf8_all whole ∙ encodes-append front rest in
    let seam = IsCharBoundary-at_seam bs (encode_utf8_all front) (encode_utf8_all rest) bytes (
      rest,
      (parts.1, refl),
    ) in
    let at : offset_of (chars bs) rest ≡ length (encode_utf8_all front) =
    rw (whole, encodes-append, length-append) (omega arith) in
    rw at (grind (arith, common_steps, seam, bytes, (chars-encodes front parts.0), (chars-encodes rest parts.1)))

-- The offset of what follows whitespace.
pub trimmed_at : (bs tail t : List ℕ) → IsUtf8 bs → IsUtf8 t → t ≡ trim_start tail
    → length bs - length t ≡ offset_of (chars bs) (trim_front (chars tail))
trimmed_at bs tail t utf8 other is =
    grind (arith, (start_trimmed tail t other is), (encodes-chars bs utf8), (encodes-chars t other))

-- ---- The spans at the front of a text

-- One more span.
one_more : (rest : List ℕ) (k : ℕ) → (drop_spans (suc k) rest ≡ next_of (drop_spans k rest))
    × (take_spans (suc k) rest ≡ take_spans k rest ++ span_of (drop_spans k rest) ∷ [])
    × (BeginsSpans (suc k) rest ↔ (BeginsSpans k rest × BeginsWithSpan (drop_spans k rest)))
one_more rest zero = grind arith
one_more rest (suc k) = grind (arith, (one_more (next_of rest) k))

-- Each span has a character.
few : (rest : List ℕ) (k : ℕ) → BeginsSpans k rest → k ≤ length rest
few rest zero begins = omega arith
few rest (suc k) begins =
    omega (arith, few (next_of rest) k begins.1, next_smaller rest begins.0.number.digit)

-- No text has as many spans as bytes and one more.
pub too_many : (bs : List ℕ) → IsUtf8 bs → ¬ (BeginsWithin (chars bs) (suc (length bs)))
too_many bs utf8 fit =
    absurd (omega (
      arith,
      few (trim_front (chars bs)) (suc (length bs)) fit.begins,
      drop_while_shorter
          is_whitespace (chars bs),
      length-le-encodes (chars bs),
      ap length (encodes-chars bs utf8),
    ))

-- The text before the rest is the spans before it.
read_to : (text front rest : List ℕ) (spans : List SpelledSpan) (k : ℕ)
    → IsReadTo text front spans rest → BeginsSpans k rest
    → (before : List ℕ) × IsReadTo text before (spans ++ take_spans k rest) (drop_spans k rest)
read_to text front rest spans zero r begins = (front, rw (append-nil spans) r)
read_to text front rest spans (suc k) r begins =
    let one = read_on text front rest spans r begins.0 in
    rw append_assoc at (read_to text (front ++ one.0) (next_of rest) (spans ++ span_of rest ∷ []) k one.1 begins.1)

-- ---- The spans that the iterator gives

none_or_some : (found : Option Fault) → (found ≡ None) ⊎ ((e : Fault) × (found ≡ Some e))
none_or_some None = inl refl
none_or_some (Some e) = inr (e, refl)

-- An error that stops a rest is no span.
no_span : (first : Bool) (text rest : List ℕ) (k : ℕ) (e : Fault) → fault_at text rest ≡ Some e
    → option_and_then result_ok (slice_get (items_from first text rest) k) ≡ None
unfolding items_from walk
no_span first text rest k e stops = grind (arith, common_steps, gets)

-- The item at an index, if it is no error, is the span there.
item_at : (first : Bool) (text rest : List ℕ) (k : ℕ)
    → SomeIff (option_and_then result_ok (slice_get (items_from first text rest) k))
    (BeginsSpans (suc k) rest) (view_at text (drop_spans k rest))
unfolding items_from
item_at first text rest zero = grind (
  arith,
  common_steps,
  (none_or_some (fault_at text rest)),
  (no_fault_is_span text rest),
  (span_has_no_fault text rest),
  (walk-go text rest),
  (no_span first text rest 0),
)
item_at first text rest (suc k) =
    grind (
      arith,
      common_steps,
      (none_or_some (fault_at text rest)),
      (no_fault_is_span text rest),
      (span_has_no_fault text rest),
      (walk-go text rest),
      (no_span first text rest (suc k)),
      (item_at false text (next_of rest) k),
    )

-- What `nth` of the spans returned, if it is no error, is the span at this index.
pub nth_is : (text : List ℕ) (it u : SpanIter) (r : Option (Result Span DurationError)) (k : ℕ)
    → AreItems text (items_left it) → SkipsThenYields GivesItem it k r u
    → SomeIff (option_map span_view (option_and_then result_ok r))
    (BeginsSpans (suc k) (trim_front text))
    (view_at text (drop_spans k (trim_front text)))
nth_is text it u r k are ran =
    let item =
    nth_from_yields_List r u k ran (YieldsList-from_shown GivesItem item_of items_left
    (λ s t g. ap length g.0.0) (λ s x t g. g.0) it) in
    let same : option_map span_view (option_and_then result_ok r)
    ≡ option_and_then result_ok (option_map item_of r) = grind arith in
    rw (same, item, one_span_view text (items_left it) are) (item_at true text (trim_front text) k)

-- ---- The ends of spans

-- What follows the word of the span at the start of a rest.
cut_after_word : (bs front rest : List ℕ) → IsUtf8 bs → chars bs ≡ front ++ rest → let end =
    offset_of (chars bs) (after_word rest) in
    (offset_of (chars bs) rest ≤ end) × IsCharBoundary bs end
    × (chars (drop end bs) ≡ after_word rest)
unfolding is_point
cut_after_word bs front rest utf8 whole =
    let span =
    take_while in_number rest ++ (point_and_digits (after_number rest) ++ word_of rest) in
    let parts : rest ≡ span ++ after_word rest =
    grind (arith, common_steps, take_while-drop_while) in
    let cut = cut_at bs (front ++ span) (after_word rest) utf8 (grind (arith, append_assoc, whole, parts)) in
    let size = ap (λ (r : List ℕ). length (encode_utf8_all r)) parts in
    (grind (arith, size, encodes-append, length-append), cut.0, cut.2)

pub after_span : (bs : List ℕ) (k : ℕ) → IsUtf8 bs → BeginsSpans (suc k) (trim_front (chars bs))
    → IsCharBoundary bs (span_end k (chars bs))
    × (chars (drop (span_end k (chars bs)) bs) ≡ after_word (drop_spans k (trim_front (chars bs))))
after_span bs k utf8 begins =
    let before =
    read_to (chars bs) _ (trim_front (chars bs)) [] k (begun (chars bs))
    ((one_more _ k).2.0 begins).0 in
    let cut =
    cut_after_word bs before.0 (drop_spans k (trim_front (chars bs))) utf8 before.1.split.whole in
    (cut.1, cut.2)

-- The text up to the whitespace after a span is accepted if and only if its spans are within the
-- limits.
pub front_decides : (bs tail t : List ℕ) (k end : ℕ) → IsUtf8 bs → IsUtf8 t
    → BeginsSpans (suc k) (trim_front (chars bs)) × (end ≡ span_end k (chars bs))
    → tail ≡ drop end bs
    → t ≡ trim_start tail
    → let next = length bs - length t in
    (next ≡ span_start (suc k) (chars bs)) × IsCharBoundary bs next × ((r : Result ℕ DurationError)
    → IsDurationAnswer (take next bs) r → IsOk r ↔ BeginsWithin (chars bs) (suc k))
front_decides bs tail t k end utf8 other found cut trim =
    let next : length bs - length t ≡ span_start (suc k) (chars bs) =
    rw ((one_more (trim_front (chars bs)) k).0)
    (rw (cut, found.1, (after_span bs k utf8 found.0).1) at
    (trimmed_at bs tail t utf8 other trim)) in
    let before =
    read_to (chars bs) _ (trim_front (chars bs)) [] (suc k) (begun (chars bs)) found.0 in
    let spans = take_spans (suc k) (trim_front (chars bs)) in
    let front = cut_at bs before.0 _ utf8 before.1.split.whole in
    let read : Reads before.0 spans = (before.1.split.spelled, λ none. grind arith) in
    let summed =
    outcome_summed before.0 spans None (not_zero before.0 spans read)
    (items_whole before.0 spans read before.1.formed) in
    rw next (refl, front.0, λ r answer. grind (arith, (rw (front.1) at answer.answer), summed, found.0))

pub front_boundary : (bs tail t : List ℕ) (k end : ℕ) → IsUtf8 bs → IsUtf8 t
    → BeginsSpans (suc k) (trim_front (chars bs)) × (end ≡ span_end k (chars bs))
    → tail ≡ drop end bs
    → t ≡ trim_start tail
    → IsCharBoundary bs (length bs - length t)
front_boundary bs tail t k end utf8 other found cut trim =
    (front_decides bs tail t k end utf8 other found cut trim).1

-- What the end of a span within the limits needs.
pub ruleset fronts = (after_span, front_decides, front_boundary)

-- ---- The fault

-- The row of the table of errors that applies after spans within the limits, if a text overflows,
-- and is beyond them with a span there.
overflow_row : (text front rest : List ℕ) (spans : List SpelledSpan)
    → IsReadTo text front spans rest → text ≢ bare_zero → duration_answer text ≡ Err NumberOverflow
    → WithinLimits spans
    → ¬ (BeginsWithSpan rest × WithinLimits (spans ++ span_of rest ∷ []))
    → IsStoppedWith text front spans rest NumberOverflow ⊎ BreaksLimit spans rest NumberOverflow
overflow_row text front rest spans read some over within beyond =
    elim (none_or_some (fault_at text rest)) [
      | inl none ↦ inr (record {
        span = no_fault_is_span text rest none;
        beyond = λ more. beyond (no_fault_is_span text rest none, more);
        fault = refl;
      })
      | inr stop ↦
          let ends = stops_here text front rest spans stop.0 read stop.1 in
          let items : Items text spans (stop_at (length spans == 0) text rest) = record {
            front = front;
            rest = rest;
            split = read.split;
            formed = read.formed;
            ends = ends;
          } in
          let is : stop_at (length spans == 0) text rest ≡ Some NumberOverflow =
          grind (arith, (outcome_summed text spans _ some items), over, within) in
          inl (rw is at ends)
    ]

-- A text that overflows, and whose first `k` spans and no more are within the limits, overflows at
-- the next span, or to its end if there is none.
pub overflows_after : (bs : List ℕ) (k j : ℕ) (end : Option ℕ) → IsUtf8 bs
    → duration_answer (chars bs) ≡ Err NumberOverflow → BeginsWithin (chars bs) k
    → ¬ (BeginsWithin (chars bs) (suc k))
    → SomeIff end (BeginsSpans (suc j) (trim_front (chars bs))) (span_end j (chars bs)) → j ≡ k
    → OverflowsAt (chars bs) (span_start k (chars bs)) (unwrap_or end (length bs))
overflows_after bs k j end utf8 over fit beyond found same =
    let rest = drop_spans k (trim_front (chars bs)) in
    let some = (fault_from_outcome _ _ over).not_zero in
    let read = read_to (chars bs) _ (trim_front (chars bs)) [] k (begun (chars bs)) fit.begins in
    let more = one_more (trim_front (chars bs)) k in
    let row =
    overflow_row (chars bs) read.0 rest _ read.1 some over fit.within (λ next. beyond
    (record { begins = more.2.1 (fit.begins, next.0); within = rw (more.1) (next.1) })) in
    record {
      fault =
          record {
            not_zero = some;
            front = read.0;
            rest = rest;
            spans = take_spans k (trim_front (chars bs));
            split = read.1.split;
            within = fit.within;
            row = row;
          };
      at_start = refl;
      at_end = grind (arith, row, more, (rw same at found), fit.begins, (ap length (encodes-chars bs utf8)));
    }

-- A text overflows at characters.
pub overflow_inside : (bs : List ℕ) (start end : ℕ) → IsUtf8 bs → OverflowsAt (chars bs) start end
    → IsRangeIn bs start end
overflow_inside bs start end utf8 at =
    let h = at.fault in
    let cut = cut_at bs h.front h.rest utf8 h.split.whole in
    grind (
      arith,
      cut,
      at.at_start,
      at.at_end,
      (cut_after_word bs h.front h.rest utf8 h.split.whole),
      (encodes-chars bs utf8),
      (IsCharBoundary-end bs),
    )
