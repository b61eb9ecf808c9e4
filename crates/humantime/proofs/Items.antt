-- The items of a text, as `spans` returns them, and the slices of the text between them.
use Rattle.humantime.specs.Characters.{drop_while, take_while, is_whitespace, bare_zero, byte_length, is_point}
use Rattle.humantime.specs.DurationErrors.{span_of, Empty, Fault, after_word}
use Rattle.humantime.specs.DurationResults.{duration_answer, view_at, item_views, span_in, items_from}
use Rattle.humantime.specs.Durations.{SpelledSpan, HasOnly}
use Rattle.humantime.specs.Items.{SpanView, AreSpanViews, items_of, AreItems, IsDigitSlice, IsFractionSlice, IsSpanView}
use Rattle.humantime.specs.Laws.{IsTiled, is_gap, slices_of}
use Rattle.humantime.specs.PrivateFunctions.{after_one_whitespace, read_span}
use Rattle.humantime.specs.Walks.{walk, walk_of, items, sum_spans, fault_at}
use Rattle.std.proofs.Common.{if◌then◌else◌, ◌≡◌, ◌≢◌, IsUtf8, bytes_eq, chars, arith, ℕ, Bool, true, List, [], ◌∷◌, map, Option, Result, Err, refl, ◌≤◌, ◌<◌, false, None, Ok, length, length-append, ◌++◌, Some, sym, ap, append_assoc, append-nil, flat_map, is_ok, option_to_list, ◌==◌, ne_eqb}
use Rattle.std.proofs.lemmas.Bool.{and_parts}
use Rattle.std.proofs.lemmas.Bool.Decides.{nat_tests}
use Rattle.std.proofs.lemmas.Grind.{common_steps}
use Rattle.std.proofs.lemmas.List.{append_cancel_right}
use Rattle.std.proofs.lemmas.List.Folds.{list_all-append}
use Rattle.std.proofs.lemmas.Slice.Eq.{bytes_eq-Decides}
use Rattle.std.proofs.lemmas.Str.{encodes-chars, encode_ascii}
use Rattle.std.specs.List.{list_all}
use Rattle.std.specs.Str.{byte}
use Rattle.humantime.proofs.Offsets.{no_bytes, some_chars}
use Rattle.humantime.proofs.TextWalks.{items_found_at, items_walked, Steps, by_walk, walk-go}
use Rattle.humantime.proofs.Outcomes.{duration_answer-items, zero_outcome}
use Rattle.humantime.proofs.Spellings.{no_fault_is_span, next_of, each-append}
use Rattle.humantime.proofs.Slices.{one_view_each, is_span_view, spelled_at, next_bytes}
use Rattle.humantime.proofs.Characters.{take_while-only, take_while-drop_while}

-- ==== The list of the views of the items of a text.

-- The views of the spans of a walk represent these spans.
spans_read : (text : List ℕ) (starts : List (List ℕ)) (stop : Option Fault)
    → map span_in (items_of (map (view_at text) starts) stop) ≡ items_of (map span_of starts) stop
spans_read text [] stop = grind arith
spans_read text (rest ∷ starts) stop = grind (arith, spelled_at, (spans_read text starts stop))

-- Unless the text is `0`, the sum of its items is its outcome.
sum_views_outcome : (text : List ℕ) → text ≢ bare_zero
    → sum_spans 0 (map span_in (item_views text)) ≡ duration_answer text
unfolding items items_from
sum_views_outcome text some = grind (arith, spans_read, (duration_answer-items text some))

-- The same for the bytes of the text, since a text whose one character is `0` is that byte.
pub sum_outcome : (bytes : List ℕ) → IsUtf8 bytes → bytes_eq bytes bare_zero ≡ false
    → duration_answer (chars bytes) ≡ sum_spans 0 (map span_in (item_views (chars bytes)))
sum_outcome bytes u other =
    let zero : chars bytes ≡ bare_zero → bytes ≡ bare_zero =
    λ e. grind (arith, (encodes-chars bytes u), encode_ascii) in
    sym (sum_views_outcome (chars bytes)
    (λ e. let same = zero e in grind (arith, (bytes_eq-Decides bytes bare_zero))))

-- Each span of a walk has its view, up to the rest that the walk leaves.
walk_has_views : (text : List ℕ) → Steps text
    (λ rest w. AreSpanViews text rest (map span_of w.starts) (map (view_at text) w.starts) w.rest)
walk_has_views text = grind (arith, next_of, is_span_view, no_fault_is_span)

pub are_items : (text : List ℕ) → AreItems text (item_views text)
unfolding items items_from
are_items text =
    let i = items_found_at text in
    record {
      spans = (items text).spans;
      stop = (items text).stop;
      views = map (view_at text) (walk_of text).starts;
      items = i.0;
      listed_are = refl;
      each = rw i.1 (by_walk text _ (walk_has_views text) (drop_while is_whitespace text));
    }

pub one_span_view : (text : List ℕ) (others : List (Result SpanView Fault)) → AreItems text others
    → others ≡ item_views text
one_span_view text others o =
    let a = are_items text in
    grind (
      arith,
      (items_walked text o.spans o.stop o.items),
      (items_walked text a.spans a.stop a.items),
      one_view_each,
      a,
    )

pub items_summed : (text : List ℕ) (others : List (Result SpanView Fault)) → AreItems text others
    → sum_spans 0 (map span_in others) ≡ sum_spans 0 (map span_in (item_views text))
items_summed text others o = ap (λ xs. sum_spans 0 (map span_in xs)) (one_span_view text others o)

-- If an error is the first item, it is the result of parsing.
pub first_error_answers : (text : List ℕ) (listed others : List (Result SpanView Fault)) (e : Fault)
    → AreItems text listed
    → listed ≡ Err e ∷ others → text ≢ bare_zero → duration_answer text ≡ Err e
unfolding sum_spans
first_error_answers text listed others e a first some =
    grind (arith, (sum_views_outcome text some), (one_span_view text listed a))

-- ==== One step over the items of a text.

after_one_whitespace_bytes : (cs : List ℕ) → byte_length (after_one_whitespace cs) ≤ byte_length cs
after_one_whitespace_bytes cs = grind (arith, common_steps, length-append)

pub step_ended : (first : Bool) (text : List ℕ)
    → items_from first text [] ≡ (if first then Err Empty ∷ [] else [])
unfolding items_from walk fault_at
step_ended first text = grind arith

pub step_stopped : (first : Bool) (text rest : List ℕ) (f : Fault) → rest ≢ []
    → Err f ≡ read_span text rest → items_from first text rest ≡ Err f ∷ []
unfolding items_from walk
step_stopped first text rest f some e = grind (arith, common_steps)

-- A span that was read has no fault.
read_without_fault : (text rest next : List ℕ) (x : SpanView) → Ok (x, next) ≡ read_span text rest
    → (fault_at text rest ≡ None) × (x ≡ view_at text rest)
    × (next ≡ after_one_whitespace (after_word rest))
read_without_fault text rest next x e = grind (arith, common_steps)

pub step_shorter : (text rest next : List ℕ) (x : SpanView) → IsUtf8 rest → IsUtf8 next
    → Ok (x, chars next) ≡ read_span text (chars rest) → length next < length rest
step_shorter text rest next x u v e =
    grind (
      arith,
      (encodes-chars rest u),
      (encodes-chars next v),
      (no_fault_is_span text (chars rest)),
      (read_without_fault text (chars rest) (chars next) x e),
      after_one_whitespace_bytes,
      next_bytes,
    )

-- So fewer bytes than those of the text are left.
pub later_step : (text rest next : List ℕ) (x : SpanView) → IsUtf8 rest → IsUtf8 next
    → length rest ≤ length text → Ok (x, chars next) ≡ read_span (chars text) (chars rest)
    → (length next == length text) ≡ false
later_step text rest next x u v within e =
    ne_eqb _ _ (λ same. omega (arith, same, within, (step_shorter (chars text) rest next x u v e)))

pub step_goes : (first : Bool) (text rest next : List ℕ) (x : SpanView)
    → Ok (x, next) ≡ read_span text rest
    → items_from first text rest ≡ Ok x ∷ items_from false text (drop_while is_whitespace next)
unfolding items_from
step_goes first text rest next x e =
    grind (arith, common_steps, (read_without_fault text rest next x e), (walk-go text rest))

pub step_read : (first : Bool) (text rest next : List ℕ) (x : SpanView) → IsUtf8 rest → IsUtf8 next
    → length rest ≤ length text → Ok (x, chars next) ≡ read_span (chars text) (chars rest)
    → items_from first (chars text) (chars rest) ≡ Ok x ∷
    items_from (length next == length text) (chars text) (drop_while is_whitespace (chars next))
step_read first text rest next x u v within e =
    rw (later_step text rest next x u v within e) (step_goes first (chars text) (chars rest) (chars next) x e)

-- ==== The slices of the items of a text tile it up to where the spans stop.

only_gap : (text : List ℕ) → HasOnly is_whitespace text → HasOnly is_gap text
only_gap [] only = tt
only_gap (c ∷ text) only = grind (arith, (only_gap text only.1))

gap-tiled : (gap text : List ℕ) (slices : List (List ℕ)) → HasOnly is_gap gap → IsTiled text slices
    → IsTiled (gap ++ text) slices
gap-tiled gap text [] only tiled = each-append _ gap text only tiled
gap-tiled gap text (slice ∷ slices) only tiled = (
  gap ++ tiled.0,
  tiled.1,
  grind (arith, append_assoc),
  each-append _ gap tiled.0 only tiled.3,
  tiled.4,
)

-- The digits of a number or a fraction, and a text that is tiled.
digits-tiled : (text slice after : List ℕ) (slices : List (List ℕ)) → IsDigitSlice text slice
    → IsTiled after slices → IsTiled (text ++ after) (slice ∷ slices)
digits-tiled text slice after slices h tiled =
    let rest = gap-tiled h.after after slices (only_gap h.after h.only_after) tiled in
    (h.before, h.after ++ after, grind (arith, append_assoc, h.whole), only_gap h.before h.only_before, rest)

fraction-tiled : (text : List ℕ) (fraction : Option (List ℕ)) (after : List ℕ) (slices : List (List ℕ))
    → IsFractionSlice text fraction → IsTiled after slices
    → IsTiled (text ++ after) (option_to_list fraction ++ slices)
unfolding is_point
fraction-tiled text None after slices view tiled = rw view tiled
fraction-tiled text (Some slice) after slices view tiled =
    rw (view.1) (gap-tiled (byte "." ∷ []) (view.0 ++ after) (slice ∷ slices) (grind arith)
    (digits-tiled view.0 slice after slices view.2 tiled))

-- The text is a front that the slices tile, followed by `end`.
abbrev HasTiledFront : List ℕ → List (List ℕ) → List ℕ → Type 0
HasTiledFront text slices end = (front : List ℕ) × (text ≡ front ++ end) × IsTiled front slices

span_tiled : (text here : List ℕ) (s : SpelledSpan) (x : SpanView) (next : List ℕ)
    (slices : List (List ℕ)) (end : List ℕ)
    → IsSpanView text here s x next → HasTiledFront next slices end
    → HasTiledFront here (slices_of (Ok x) ++ slices) end
span_tiled text here s x next slices end view later =
    let spelled = view.spelled in
    let after = spelled.whitespace ++ later.0 in
    let white = gap-tiled spelled.whitespace later.0 slices
    (only_gap spelled.whitespace spelled.only_whitespace) later.2 in
    let word : IsTiled (s.word ++ after) (x.unit ∷ slices) =
    ([], after, ap (λ w. w ++ after) (sym view.unit), tt, white) in
    let fraction = fraction-tiled spelled.fraction_text x.fraction (s.word ++ after)
    (x.unit ∷ slices) view.fraction word in
    let front = spelled.number_text ++ (spelled.fraction_text ++ (s.word ++ after)) in (
      front,
      grind (arith, common_steps),
      rw
          (append_assoc (option_to_list x.fraction) (x.unit ∷ []) slices)
          (digits-tiled spelled.number_text x.number _ _ view.number fraction),
    )

views_tile : (text here : List ℕ) (spans : List SpelledSpan) (views : List SpanView) (end : List ℕ)
    (stop : Option Fault)
    → AreSpanViews text here spans views end
    → HasTiledFront here (flat_map slices_of (items_of views stop)) end
views_tile text here (s ∷ ss) (x ∷ xs) end stop each =
    span_tiled text here s x each.0 _ end each.1 (views_tile text each.0 ss xs end stop each.2)
views_tile text here spans views end stop each = grind arith

pub front_tiled : (text : List ℕ) (items : List (Result SpanView Fault)) (are : AreItems text items)
    → IsTiled are.items.front (flat_map slices_of items)
front_tiled text items are =
    let white = take_while is_whitespace text in
    let found = views_tile text _ are.spans are.views are.items.rest are.stop are.each in
    let same : white ++ found.0 ≡ are.items.front = append_cancel_right _ _ are.items.rest
    (grind (arith, append_assoc, found.1, (take_while-drop_while is_whitespace text), are.items.split.whole)) in
    rw (are.listed_are, sym same)
    (gap-tiled white found.0 _ (only_gap white (take_while-only is_whitespace text)) found.2)

pub text_tiled : (text : List ℕ) (items : List (Result SpanView Fault)) → AreItems text items
    → list_all is_ok items ≡ true → IsTiled text (flat_map slices_of items)
text_tiled text items are each =
    grind (arith, list_all-append, and_parts, append-nil, (front_tiled text items are))

-- What `next` needs.
pub ruleset next_item = (step_ended, step_stopped, step_read, no_bytes, some_chars)

-- What `read_duration` needs.
pub ruleset outcomes = (zero_outcome, sum_outcome)

-- What the sum of the items of a text needs.
pub ruleset item_sums = (items_summed, common_steps, nat_tests)
