-- The lines of a text.
use Rattle.std.specs.Prelude.{◌≡◌, ◌==◌, ◌+◌, ◌-◌, ◌<◌, ◌≤◌, ℕ, true, List, [], ◌∷◌, Option}
use Rattle.std.specs.Prelude.{count_by}
use Rattle.std.specs.Prelude.{None, Some, IsUtf8, drop, length, not, option_map, reverse, slice_get}
use Rattle.std.specs.Prelude.{slice_index, take, unwrap_or}
use Rattle.std.specs.List.{after_first, after_last, position_or_len, slice_split, suffix_len}
use Rattle.std.specs.Str.{IsCharBoundary, NoCharPasses}
use Rattle.std.specs.Str.Lines.{lines_of_parts, strip_carriage_return}
use Rattle.std.proofs.Common.{◌∙◌, ap, arith, drop_of_length-le, eqb-true, get_or, get_or-drop, inl}
use Rattle.std.proofs.Common.{inr, length-drop, length-take, refl, subst, sym}
use Rattle.std.proofs.lemmas.Bool.{cases_lt, cond_both}
use Rattle.std.proofs.lemmas.Iterator.{YieldsList}
use Rattle.std.proofs.lemmas.List.{get_or-reverse, get_or-take, length-reverse, nil_from_length}
use Rattle.std.proofs.lemmas.List.{take-take, take_all}
use Rattle.std.proofs.lemmas.List.Sums.{fails_before_first, passes_at_first, suffix_len_is}
use Rattle.std.proofs.lemmas.List.Splits.{length-slice_split, slice_split_first, slice_split_none}
use Rattle.std.proofs.lemmas.Str.Pattern.{NoCharPasses-char}
use Rattle.std.proofs.lemmas.Str.{IsCharBoundary-after_ascii, IsCharBoundary-before_ascii}
use Rattle.std.proofs.lemmas.Str.{IsCharBoundary-end, IsCharBoundary-start, IsUtf8-drop, IsUtf8-nil}
use Rattle.std.proofs.lemmas.Str.{IsUtf8-take}
use Rattle.humantime_lines.specs.Lines.{IsRangeIn, first_line, is_line_feed, line_after}
use Rattle.humantime_lines.specs.Lines.{line_before}

-- The first item that is yielded is the first of the list.
pub first_yielded : {S A B : Type 0} {steps : S → Option A → S → Type 0} {v : A → B} {s t : S}
    (ys : List B) (r : Option A) → YieldsList steps v s ys → steps s r t
    → option_map v r ≡ slice_get ys 0
first_yielded [] None all step = refl
first_yielded {t = t} [] (Some x) all step = absurd (all.runs x t step)
first_yielded {t = t} (y ∷ ys) None all step = absurd (all.runs.0 t step)
first_yielded {t = t} (y ∷ ys) (Some x) all step = ap Some (all.runs.1 x t step).0

-- A line without a carriage return at its end is a start of it, up to a boundary.
strip_is_start : (line : List ℕ)
    → (n : ℕ) × IsCharBoundary line n × (strip_carriage_return line ≡ take n line)
strip_is_start line =
    let last = length line - 1 in
    let P = λ (start : List ℕ). (n : ℕ) × IsCharBoundary line n × (start ≡ take n line) in
    cond_both (slice_index line last == 13) (take last line) line P
    (λ cr.
    let ascii = eqb-true (slice_index line last) 13 cr in
    (last, (omega arith, λ _ high. absurd (omega arith)), refl))
    (λ _. (length line, IsCharBoundary-end line, sym (take_all (length line) line (omega arith))))

-- The first of several lines.
first_of_parts : (line : List ℕ) (parts : List (List ℕ)) → 0 < length parts
    → unwrap_or (slice_get (lines_of_parts (line ∷ parts)) 0) [] ≡ strip_carriage_return line
first_of_parts line [] some = absurd (omega arith)
first_of_parts line (next ∷ parts) some = refl

-- The first line of a text is a start of it, and UTF-8 if the text is.
pub first_line_is_start : (text : List ℕ)
    → (n : ℕ) × (first_line text ≡ take n text) × (IsUtf8 text → IsUtf8 (take n text))
first_line_is_start text =
    let at = position_or_len is_line_feed text in
    let first = λ (parts : List (List ℕ)).
    unwrap_or (slice_get (lines_of_parts parts) 0) [] in
    elim (cases_lt at (length text)) [
      | inl some ↦
          let line = take at text in
          let parts = slice_split is_line_feed (after_first is_line_feed text) in
          let many = length-slice_split is_line_feed (after_first is_line_feed text) in
          let split = slice_split_first is_line_feed text 0 some in
          let is = ap first split ∙ first_of_parts line parts (omega (arith, many)) in
          let start = strip_is_start line in
          let long : start.0 ≤ at = omega (arith, start.1.0, length-take at text) in
          let same = take-take start.0 at text long in
          let feed = eqb-true (slice_index text at) 10 (passes_at_first is_line_feed text 0 some) in
          let boundary = IsCharBoundary-before_ascii text at some (omega arith) in
          let front = λ (utf8 : IsUtf8 text). IsUtf8-take text at utf8 boundary in
          let kept = λ (utf8 : IsUtf8 text). IsUtf8-take line start.0 (front utf8) start.1 in
          (start.0, is ∙ start.2 ∙ same, λ utf8. subst IsUtf8 same (kept utf8))
      | inr none ↦
          let fails = λ (k d : ℕ) (low : k < length text).
          fails_before_first is_line_feed text k d (omega arith) in
          let one = slice_split_none is_line_feed text fails in
          let nil = λ (empty : (length text == 0) ≡ true).
          sym (nil_from_length text (eqb-true (length text) 0 empty)) in
          let P = λ (lines : List (List ℕ)). unwrap_or (slice_get lines 0) [] ≡ text in
          let only = cond_both (length text == 0) [] (text ∷ []) P nil (λ _. refl) in
          let all = take_all (length text) text (omega arith) in
          (length text, ap first one ∙ only ∙ sym all, λ utf8. rw all utf8)
    ]

-- A boundary of a text is one of its first line, as far as this goes.
pub boundary_in_line : (text : List ℕ) (n : ℕ) → IsCharBoundary text n
    → n ≤ length (first_line text) → IsCharBoundary (first_line text) n
boundary_in_line text n boundary within =
    let start = first_line_is_start text in
    let size = ap length start.1 ∙ length-take start.0 text in (
      within,
      λ inside high.
          let byte = ap (λ line. slice_index line n) start.1 in
          let same = byte ∙ get_or-take start.0 text n 0 (omega (arith, size)) in
          rw same (boundary.1 (omega (arith, size)) (rw same at high)),
    )

pub boundary_of_line : (text line : List ℕ) (n : ℕ) → line ≡ first_line text
    → IsCharBoundary text n → n ≤ length line → IsCharBoundary line n
boundary_of_line text line n is boundary within =
    rw is (boundary_in_line text n boundary (rw is at within))

-- The end of a range in a text is a boundary of what is from its start on.
pub boundary_of_rest : (text rest : List ℕ) (start end : ℕ) → IsRangeIn text start end
    → rest ≡ drop start text → IsCharBoundary rest (end - start)
boundary_of_rest text rest start end range is =
    let size = ap length is ∙ length-drop start text in
    let at : start + (end - start) ≡ end = omega arith in (
      omega (arith, size),
      λ inside high.
          let byte = ap (λ r. slice_index r (end - start)) is in
          let same = byte ∙ get_or-drop start text (end - start) 0 ∙ ap (slice_index text) at in
          rw same (range.2.1 (omega (arith, size)) (rw same at high)),
    )

-- What follows the last line feed of a text is UTF-8.
last_line_utf8 : (text : List ℕ) → IsUtf8 text → IsUtf8 (after_last is_line_feed text)
last_line_utf8 text utf8 =
    let n = suffix_len (λ b. not (is_line_feed b)) text in
    let start = length text - n in
    let P = λ (at : ℕ). IsCharBoundary text at in
    let boundary : IsCharBoundary text start = elim (cases_lt n (length text)) [
      | inl some ↦
          let size = length-reverse text in
          let passes = passes_at_first is_line_feed (reverse text) 0 (omega arith) in
          let feed = eqb-true (get_or (reverse text) n 0) 10 passes in
          let same = get_or-reverse text n 0 some in
          let at = length text - 1 - n in
          let after = IsCharBoundary-after_ascii text at utf8 (omega arith) (omega arith) in
          subst P (omega arith) after
      | inr none ↦ subst P (omega arith) (IsCharBoundary-start text utf8)
    ] in
    IsUtf8-drop text start utf8 boundary

-- A line is UTF-8 up to a boundary and from it on, or up to any offset beyond its end.
cut_utf8 : (line : List ℕ) (n : ℕ) → IsUtf8 line → (n ≤ length line → IsCharBoundary line n)
    → IsUtf8 (take n line) × IsUtf8 (drop n line)
cut_utf8 line n utf8 boundary =
    elim (cases_lt (length line) n) [
      | inl beyond ↦
          let none : drop n line ≡ [] = drop_of_length-le line (omega arith) in
          (rw (take_all n line (omega arith)) utf8, rw none IsUtf8-nil)
      | inr within ↦
          (IsUtf8-take line n utf8 (boundary within), IsUtf8-drop line n utf8 (boundary within))
    ]

-- The parts of the line of a range are UTF-8.
pub line_utf8 : (text : List ℕ) (start end : ℕ) → IsUtf8 text → IsRangeIn text start end
    → IsUtf8 (line_before text start) × IsUtf8 (take (end - start) (line_after text start))
    × IsUtf8 (drop (end - start) (line_after text start))
line_utf8 text start end utf8 range =
    let rest = drop start text in
    let first = first_line_is_start rest in
    let rest_utf8 = IsUtf8-drop text start utf8 range.1 in
    let boundary = boundary_of_rest text rest start end range refl in
    let parts = cut_utf8 (first_line rest) (end - start) (rw first.1 (first.2 rest_utf8))
    (boundary_in_line rest (end - start) boundary) in
    (last_line_utf8 (take start text) (IsUtf8-take text start utf8 range.1), parts.0, parts.1)

-- What follows a line feed, and has none, is the last line.
pub last_line_is : (text : List ℕ) (j : ℕ) → j ≤ length text
    → NoCharPasses (λ c. c == 10) (drop j text) → (0 < j → get_or text (j - 1) 0 ≡ 10)
    → drop j text ≡ after_last is_line_feed text
last_line_is text j within none feed =
    let rest = drop j text in
    let byte = λ (k : ℕ). get_or-drop j text (k - j) 0 in
    let size = length-drop j text in
    let others : (k : ℕ) → j ≤ k → k < length text → not (get_or text k 0 == 10) ≡ true =
    λ k from inside.
    let other = NoCharPasses-char 10 rest (k - j) none (omega arith) (omega (arith, size)) in
    grind (arith, byte k, other) in
    let test = λ (b : ℕ). not (is_line_feed b) in
    let last = suffix_len_is test text j 0 within others (λ some. grind (arith, feed some)) in
    ap (λ n. drop n text) (omega (arith, last, within))

pub only_line_is : (text : List ℕ) → NoCharPasses (λ c. c == 10) text
    → text ≡ after_last is_line_feed text
only_line_is text none = last_line_is text 0 (omega arith) none (λ none. absurd (omega arith))

pub ruleset last_lines = (last_line_is, only_line_is)

-- A text has line feeds if the first one is in it.
pub has_feeds : (text : List ℕ) → position_or_len is_line_feed text < length text
    → 0 < count_by is_line_feed text
has_feeds text some =
    let parts = length-slice_split is_line_feed text in
    let more = length-slice_split is_line_feed (after_first is_line_feed text) in
    omega (arith, rw (slice_split_first is_line_feed text 0 some) at parts, more)

pub has_no_feed : (text : List ℕ) → position_or_len is_line_feed text ≡ length text
    → count_by is_line_feed text ≡ 0
has_no_feed text none =
    let fails = λ (k d : ℕ) (few : k < length text).
    fails_before_first is_line_feed text k d (omega (arith, none)) in
    let whole = slice_split_none is_line_feed text fails in
    omega (arith, rw whole at (length-slice_split is_line_feed text))

pub ruleset first_feeds = (has_feeds, has_no_feed)
