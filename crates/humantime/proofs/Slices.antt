-- What a span borrows from its text.
use Rattle.humantime.specs.Characters.{begins, ends, drop_while, take_while, is_whitespace, is_digit, is_letter, in_number, digits, is_point, byte_length, offset_of}
use Rattle.humantime.specs.DurationErrors.{span_of, after_number, after_fraction, fraction_of, word_of, after_word, BeginsWithSpan}
use Rattle.humantime.specs.DurationResults.{trimmed, fraction_slice, view_at, spelled, number_slice}
use Rattle.humantime.specs.Durations.{HasOnly, SpelledSpan, SpellsFraction}
use Rattle.humantime.specs.Items.{IsDigitSlice, SpanView, IsFractionSlice, IsSpanView, AreSpanViews}
use Rattle.std.proofs.Common.{append_assoc, ◌≡◌, ℕ, Bool, true, false, ◌&&◌, cond, eqb, List, [], ◌∷◌, ◌++◌, length, Some, None, refl, sym, ap, ◌∙◌, arith, IsUtf8, chars, Option, ap₂, ◌≢◌, subst, ◌<◌}
use Rattle.std.proofs.lemmas.Bool.Decides.{nat_tests}
use Rattle.std.proofs.lemmas.Grind.{common_steps}
use Rattle.std.proofs.lemmas.List.{append_cancel_left}
use Rattle.std.proofs.lemmas.Str.{encodes-chars, encodes_same, encodes-append, length-le-encodes}
use Rattle.std.specs.Char.{is_whitespace as std_is_whitespace}
use Rattle.std.specs.Str.{trim_start, trim_end, skip_leading_whitespace, drop_trailing_whitespace}
use Rattle.std.proofs.Math.Dec.{eqb-suc-zero}
use Rattle.std.proofs.Math.Bool.{and-false}
use Rattle.humantime.proofs.Characters.{whitespace_is, letter_not_whitespace, take_while-append, digit_not_whitespace, drop_while-append, digit_in_number, begins-append, ends-append, take_while-drop_while, take_while-only, begins_take_while}
use Rattle.humantime.proofs.Spellings.{read_spelled, next_of, spells-append, written_here}

-- ==== Slices without leading and trailing whitespace.

-- Trimming keeps the digits.
pub digits_kept : (cs : List ℕ) → digits (drop_trailing_whitespace cs) ≡ digits cs
digits_kept [] = refl
digits_kept (c ∷ cs) = by (std_is_whitespace c) (drop_trailing_whitespace cs) refl (digits_kept cs)
  where
    by : (w : Bool) (ds : List ℕ) → std_is_whitespace c ≡ w → digits ds ≡ digits cs
        → digits (cond (w && eqb (length ds) 0) [] (c ∷ ds)) ≡ digits (c ∷ cs)
    by true [] e d = grind (arith, whitespace_is, digit_not_whitespace)
    by true (x ∷ xs) e d = rw (eqb-suc-zero (length xs)) (grind arith)
    by false ds e d = grind arith

pub digits_drop_while : (cs : List ℕ) → digits (drop_while is_whitespace cs) ≡ digits cs
digits_drop_while [] = refl
digits_drop_while (c ∷ cs) = grind (arith, (digits_drop_while cs), digit_not_whitespace)

-- The slices represent the span that they are taken from.
pub spelled_at : (text rest : List ℕ) → spelled (view_at text rest).number
    (view_at text rest).fraction (view_at text rest).unit ≡ span_of rest
spelled_at text rest = grind (arith, common_steps, digits_kept, digits_drop_while)

-- There is no slice of a fraction if a letter follows the number.
pub no_slice : (tail : List ℕ) → begins is_letter tail ≡ true → fraction_slice tail ≡ None
unfolding is_letter is_point
no_slice tail h = grind (arith, nat_tests)

pub slice_after_point : (after tail : List ℕ) → HasOnly in_number after
    → begins is_letter tail ≡ true
    → fraction_slice (46 ∷ (after ++ tail)) ≡ Some (trimmed after)
unfolding is_digit is_letter is_point
slice_after_point after tail only e =
    grind (arith, letter_not_whitespace, nat_tests, take_while-append)

-- The results of std's `trim_end` and `trim_start`.
pub end_trimmed : (text cut : List ℕ) → IsUtf8 cut → cut ≡ trim_end text
    → chars cut ≡ drop_trailing_whitespace (chars text)
unfolding trim_end
end_trimmed text cut u e =
    encodes_same (chars cut) (drop_trailing_whitespace (chars text)) (encodes-chars cut u ∙ e)

skipped : (cs : List ℕ) → skip_leading_whitespace cs ≡ drop_while is_whitespace cs
skipped [] = refl
skipped (c ∷ cs) = grind (arith, whitespace_is, skipped cs)

pub start_trimmed : (text cut : List ℕ) → IsUtf8 cut → cut ≡ trim_start text
    → chars cut ≡ drop_while is_whitespace (chars text)
unfolding trim_start
start_trimmed text cut u e = encodes_same (chars cut) (skip_leading_whitespace (chars text))
    (encodes-chars cut u ∙ e) ∙ skipped (chars text)

pub slice_trimmed : (text : List ℕ) → IsUtf8 (trim_start text) → IsUtf8 (trim_end (trim_start text))
    → chars (trim_end (trim_start text)) ≡ trimmed (chars text)
slice_trimmed text u v =
    end_trimmed _ _ v refl ∙ ap drop_trailing_whitespace (start_trimmed _ _ u refl)

-- ==== Digits and whitespace, with at least one digit, have one slice from the first to the last
-- digit.

drop_whitespace : (cs : List ℕ) → HasOnly is_whitespace cs → drop_trailing_whitespace cs ≡ []
drop_whitespace [] o = refl
drop_whitespace (c ∷ cs) o = grind (arith, (drop_whitespace cs o.1), whitespace_is)

-- Only the whitespace after the last digit is dropped.
drop_tail : (xs tail : List ℕ) → HasOnly is_whitespace tail → ends is_digit xs ≡ true
    → drop_trailing_whitespace (xs ++ tail) ≡ xs
drop_tail [] tail o e = cc
drop_tail (x ∷ []) tail o e =
    ap₂ (λ (b : Bool) (l : List ℕ). cond (b && eqb (length l) 0) [] (x ∷ l))
    (whitespace_is x ∙ digit_not_whitespace x e) (drop_whitespace tail o)
drop_tail (x ∷ y ∷ xs) tail o e =
    rw (drop_tail (y ∷ xs) tail o e, eqb-suc-zero (length xs), and-false)

-- A text without leading and trailing whitespace goes from its first to its last digit.
trimmed_is : (text slice : List ℕ) → IsDigitSlice text slice → trimmed text ≡ slice
trimmed_is text slice h = grind (arith, digit_not_whitespace, drop_while-append, drop_tail)

only_whitespace : (cs : List ℕ) → HasOnly in_number cs → digits cs ≡ [] → HasOnly is_whitespace cs
only_whitespace [] only none = tt
only_whitespace (c ∷ cs) only none = grind (arith, (only_whitespace cs only.1))

has_slice : (cs : List ℕ) → HasOnly in_number cs → digits cs ≢ []
    → (slice : List ℕ) × IsDigitSlice cs slice
has_slice [] only some = absurd (some refl)
has_slice (c ∷ cs) only some = by (is_digit c) (digits cs) refl refl (has_slice cs only.1)
  where
    by : (digit : Bool) (more : List ℕ) → is_digit c ≡ digit → digits cs ≡ more
        → (digits cs ≢ [] → (slice : List ℕ) × IsDigitSlice cs slice)
        → (slice : List ℕ) × IsDigitSlice (c ∷ cs) slice
    by true [] d e s = (
      c ∷ [],
      record {
        before = [];
        after = cs;
        whole = refl;
        only_before = tt;
        only_after = only_whitespace cs only.1 e;
        first_digit = d;
        last_digit = d;
      },
    )
    by true (x ∷ xs) d e s =
        let k = s (λ n. cc) in
        let last =
        ends-append is_digit (c ∷ k.1.before) k.0
        (λ n. let first = rw n at k.1.first_digit in cc) ∙ k.1.last_digit in
        let whole = ap (c ∷◌) (k.1.whole ∙ sym (append_assoc k.1.before k.0 k.1.after)) in (
          c ∷ (k.1.before ++ k.0),
          record {
            before = [];
            after = k.1.after;
            whole = whole;
            only_before = tt;
            only_after = k.1.only_after;
            first_digit = d;
            last_digit = last;
          },
        )
    by false more d e s =
        let k = s (λ n. some (grind arith)) in (
          k.0,
          record {
            before = c ∷ k.1.before;
            after = k.1.after;
            whole = ap (c ∷◌) k.1.whole;
            only_before = (grind arith, k.1.only_before);
            only_after = k.1.only_after;
            first_digit = k.1.first_digit;
            last_digit = k.1.last_digit;
          },
        )

trimmed_slice : (cs : List ℕ) → HasOnly in_number cs → digits cs ≢ []
    → IsDigitSlice cs (trimmed cs)
trimmed_slice cs only some = let s = has_slice cs only some in rw (trimmed_is cs s.0 s.1) (s.1)

-- The same of a text that begins with a digit.
number_is_viewed : (cs : List ℕ) → HasOnly in_number cs → begins is_digit cs ≡ true
    → IsDigitSlice cs (drop_trailing_whitespace cs)
number_is_viewed cs only d =
    let same : trimmed cs ≡ drop_trailing_whitespace cs = grind (arith, digit_not_whitespace) in
    rw same at (trimmed_slice cs only (λ none. grind arith))

-- ==== The view of a span is determined by the text and the span.

fraction_found : (b tail : List ℕ) (o f : Option (List ℕ)) → SpellsFraction b o
    → IsFractionSlice b f
    → begins is_letter tail ≡ true → f ≡ fraction_slice (b ++ tail)
fraction_found b tail (Some ds) (Some slice) h k e =
    grind (arith, (slice_after_point h.0 tail h.2.0 e), (trimmed_is k.0 slice k.2))
fraction_found b tail _ _ h k e = grind (arith, no_slice)

-- The slices of a span are those at the start of the rest.
slices_found : (text rest : List ℕ) (s : SpelledSpan) (x : SpanView) (next : List ℕ)
    (h : IsSpanView text rest s x next)
    → (x.number ≡ number_slice rest) × (x.fraction ≡ fraction_slice (after_number rest))
    × (after_fraction rest ≡ x.unit ++ (h.spelled.whitespace ++ next))
    × (begins is_digit rest ≡ true)
slices_found text rest s x next h =
    let k = h.spelled in
    let fraction =
    fraction_found k.fraction_text (s.word ++ (k.whitespace ++ next)) s.fraction x.fraction
    k.fraction h.fraction in
    grind (
      arith,
      (read_spelled rest next s k),
      begins-append,
      fraction,
      h,
      (trimmed_is k.number_text x.number h.number),
      digit_not_whitespace,
    )

-- Two views of one span are equal, and so are the texts after them.
one_span : (text rest : List ℕ) (s : SpelledSpan) (x y : SpanView) (m n : List ℕ)
    (h : IsSpanView text rest s x m) (k : IsSpanView text rest s y n)
    → (x ≡ y) × (h.spelled.whitespace ++ m ≡ k.spelled.whitespace ++ n)
one_span text rest s x y m n h k =
    let cancel =
    append_cancel_left x.unit (h.spelled.whitespace ++ m) (k.spelled.whitespace ++ n) in
    grind (
      arith,
      common_steps,
      (slices_found text rest s x m h),
      (slices_found text rest s y n k),
      cancel,
      h.unit,
      k.unit,
    )

-- A list of spans has exactly one list of views, whatever whitespace precedes the rest of the text.
pub one_view_each : (text p q m n : List ℕ) (spans : List SpelledSpan) (xs ys : List SpanView)
    (d e : List ℕ) → HasOnly is_whitespace p → HasOnly is_whitespace q → p ++ m
    ≡ q ++ n → AreSpanViews text m spans xs d → AreSpanViews text n spans ys e → xs ≡ ys
one_view_each text p q m n (s ∷ ss) (x ∷ xs) (y ∷ ys) d e o u w h k =
    let r : m ≡ n = grind (
      arith,
      (drop_while-append is_whitespace p m o),
      (drop_while-append is_whitespace q n u),
      digit_not_whitespace,
    ) in
    let l = rw (← r) at k.1 in
    let more =
    one_view_each text h.1.spelled.whitespace l.spelled.whitespace h.0 k.0 ss xs ys d e
    h.1.spelled.only_whitespace l.spelled.only_whitespace in
    grind (arith, (one_span text m s x y h.0 k.0 h.1 l), more)
one_view_each text p q m n spans xs ys d e o u w h k = grind arith

-- ==== The view of the span at the start of a rest.

fraction_is_viewed : (b tail : List ℕ) (o : Option (List ℕ)) → SpellsFraction b o
    → begins is_letter tail ≡ true → IsFractionSlice b (fraction_slice (b ++ tail))
fraction_is_viewed b tail o h k = grind (arith, no_slice, slice_after_point, trimmed_slice)

pub next_bytes : (rest : List ℕ) → begins is_digit rest ≡ true
    → byte_length (after_word rest) < byte_length rest
next_bytes rest b =
    let some : 0 < length (take_while in_number rest) = grind (arith, digit_in_number) in
    grind (
      arith,
      common_steps,
      (take_while-drop_while in_number rest),
      (take_while-drop_while in_number),
      encodes-append,
      (take_while-drop_while is_letter (after_fraction rest)),
      length-le-encodes,
    )

-- The slices of a well-formed span at the start of a rest tile it up to the next number.
pub is_span_view : (text rest : List ℕ) → BeginsWithSpan rest
    → IsSpanView text rest (span_of rest) (view_at text rest) (next_of rest)
is_span_view text rest f =
    let w = written_here rest f in
    let h = rw (← w.1) at (spells-append w.0 [] (next_of rest) (span_of rest) w.2) in
    let after = h.whitespace ++ next_of rest in
    let r = read_spelled rest (next_of rest) (span_of rest) h in
    let starts = begins_take_while is_digit in_number rest f.number.digit digit_in_number in
    let number =
    number_is_viewed (take_while in_number rest) (take_while-only in_number rest) starts in
    let fraction =
    fraction_is_viewed h.fraction_text (word_of rest ++ after) (fraction_of rest) h.fraction
    (begins-append is_letter (word_of rest) after h.word.1 ∙ grind arith) in
    record {
      spelled = h;
      number = subst (λ (l : List ℕ). IsDigitSlice l (number_slice rest)) r.0 number;
      fraction = subst (λ (l : List ℕ). IsFractionSlice h.fraction_text (fraction_slice l))
          (sym r.1) fraction;
      unit = refl;
      start = refl;
      end =
          ap (offset_of text) (append_cancel_left (word_of rest) (after_word rest) after
          (take_while-drop_while is_letter (after_fraction rest) ∙ r.3));
      value = refl;
    }

-- What adding a span needs.
pub ruleset amounts = (digits_kept, digits_drop_while, common_steps)
