-- The span at the start of a text, how it is spelled, and the error that stops it.
use Rattle.humantime.specs.Characters.{is_whitespace, is_digit, is_letter, in_number, is_point, take_while, drop_while, begins, ends}
use Rattle.humantime.specs.DurationErrors.{after_fraction, after_number, after_point, after_word, fraction_of, may_follow_span, number_of, span_of, Fault, BeginsWithSpan, IsStoppedWith, word_of}
use Rattle.humantime.specs.Durations.{is_some_and, SpelledSpan, HasOnly, Spells, SpellsSpans, IsLetters, SpellsFraction, scale_of_word}
use Rattle.humantime.specs.Walks.{fault_at, at_letter_or_end}
use Rattle.std.proofs.Common.{◌==◌, arith, inl, ◌≡◌, ℕ, List, [], ◌∷◌, ◌++◌, sym, append_assoc, append-nil, subst, ◌≢◌, ◌⊎◌, ◌<◌, true, false, length, Option, Some, None, if◌then◌else◌, option_map, unwrap_or, IsSome, Decides}
use Rattle.std.proofs.lemmas.Bool.Decides.{nat_tests}
use Rattle.std.proofs.lemmas.Grind.{common_steps}
use Rattle.std.specs.List.{AllByRecursion}
use Rattle.humantime.proofs.Characters.{letter_not_whitespace, point_not_in_number, take_while-append, drop_while-append, drop_while_shorter, begins-append, ends_only, ends_other, ends-append, take_while-drop_while, digit_in_number, take_while-only, begins_take_while, begins-drop_while}

-- ==== A spelling as a text of its own, and followed by more text.

-- The same parts with other whitespace, or with another rest.
pub respelled : (text rest here next white : List ℕ) (s : SpelledSpan) (h : Spells text s rest)
    → here ≡ h.number_text ++ (h.fraction_text ++ (s.word ++ (white ++ next)))
    → HasOnly is_whitespace white → Spells here s next
respelled text rest here next white s h whole only = grind arith

-- The text is a spelling of the span alone, followed by the rest.
pub apart : (text rest : List ℕ) (s : SpelledSpan) → Spells text s rest
    → (here : List ℕ) × (text ≡ here ++ rest) × Spells here s []
apart text rest s h =
    let here = h.number_text ++ (h.fraction_text ++ (s.word ++ h.whitespace)) in (
      here,
      grind (arith, append_assoc, h.whole),
      respelled text rest here [] h.whitespace s h (sym (simp append-nil)) h.only_whitespace,
    )

pub spells-append : (text rest more : List ℕ) (s : SpelledSpan) → Spells text s rest
    → Spells (text ++ more) s (rest ++ more)
spells-append text rest more s h = grind (arith, common_steps)

pub spells_spans-append : (a b : List ℕ) (ss ts : List SpelledSpan) → SpellsSpans a ss
    → SpellsSpans b ts → SpellsSpans (a ++ b) (ss ++ ts)
spells_spans-append a b [] ts h k = subst (λ (l : List ℕ). SpellsSpans (l ++ b) ts) (sym h) k
spells_spans-append a b (s ∷ ss) ts h k =
    (h.0 ++ b, spells-append a h.0 b s h.1, spells_spans-append h.0 b ss ts h.2 k)

-- If all elements of two lists have a property, so do those of the joined list.
pub each-append : {A : Type 0} (P : A → Type 0) (xs ys : List A) → AllByRecursion P xs
    → AllByRecursion P ys → AllByRecursion P (xs ++ ys)
each-append P xs ys h k = grind (arith, common_steps)

-- ==== The parser recovers a span from its spelling, by the longest runs of characters.

-- The text after a span: after its word and the whitespace that follows.
abbrev pub next_of : List ℕ → List ℕ
next_of rest = drop_while is_whitespace (after_word rest)

-- The rest begins with a digit, and its span and the text after it are these.
abbrev pub IsSpelledAt : List ℕ → SpelledSpan → List ℕ → Type 0
IsSpelledAt rest s next =
    (begins is_digit rest ≡ true) × (span_of rest ≡ s) × (fraction_of rest ≢ Some [])
    × (may_follow_span (after_word rest) ≡ true) × (next_of rest ≡ next)

fraction_read : (b tail : List ℕ) (o : Option (List ℕ)) → SpellsFraction b o
    → begins is_letter tail ≡ true
    → (begins in_number (b ++ tail) ≡ false) × (option_map number_of (after_point (b ++ tail)) ≡ o)
    × (unwrap_or (option_map after_number (after_point (b ++ tail))) (b ++ tail) ≡ tail)
    × (o ≢ Some [])
unfolding is_letter is_point is_digit
fraction_read b tail o h e = grind (
  arith,
  nat_tests,
  letter_not_whitespace,
  point_not_in_number,
  take_while-append,
  drop_while-append,
)

-- The number and the fraction of a span are parsed up to its word.
pub read_spelled : (rest next : List ℕ) (s : SpelledSpan) (h : Spells rest s next)
    → (take_while in_number rest ≡ h.number_text)
    × (after_number rest ≡ h.fraction_text ++ (s.word ++ (h.whitespace ++ next)))
    × (fraction_of rest ≡ s.fraction) × (after_fraction rest ≡ s.word ++ (h.whitespace ++ next))
    × (s.fraction ≢ Some [])
read_spelled rest next s h =
    grind (arith, begins-append, fraction_read, drop_while-append, take_while-append)

-- If a spelling ends with its word, it does not end in whitespace.
ends_in_word : (a b word : List ℕ) → HasOnly is_letter word → begins is_letter word ≡ true
    → ends is_whitespace (a ++ (b ++ (word ++ []))) ≡ false
ends_in_word a b word only some =
    grind (arith, append-nil, ends-append, ends_other, letter_not_whitespace, ends_only)

followed : (a b word c here next : List ℕ) → here ≡ a ++ (b ++ (word ++ c)) → IsLetters word
    → HasOnly is_whitespace c
    → (may_follow_span next ≡ true) ⊎ (ends is_whitespace here ≡ true)
    → may_follow_span (c ++ next) ≡ true
followed a b word [] here next whole letters whitespace o =
    grind (arith, (ends_in_word a b word letters.0))
followed a b word (x ∷ xs) here next whole letters whitespace o = grind arith

-- A spelling is the span at its start, if its word ends with it.
pub spelled_here : (here next : List ℕ) (s : SpelledSpan) → Spells here s []
    → (may_follow_span next ≡ true) ⊎ (ends is_whitespace here ≡ true)
    → begins is_whitespace next ≡ false → IsSpelledAt (here ++ next) s next
unfolding is_digit is_letter
spelled_here here next s h o no_whitespace =
    let whole = simp append-nil at h.whole in
    let f = followed h.number_text h.fraction_text s.word h.whitespace here next whole h.word h.only_whitespace o in
    let stops : begins is_letter (h.whitespace ++ next) ≡ false =
    grind (arith, letter_not_whitespace, nat_tests) in
    rw whole
    (simp append_assoc (grind (
      arith,
      (f),
      (stops),
      begins-append,
      take_while-append,
      drop_while-append,
      fraction_read,
    )))

-- The text after a span is shorter than the text from the span on.
pub next_smaller : (rest : List ℕ) → begins is_digit rest ≡ true
    → length (next_of rest) < length rest
next_smaller rest e = grind (
  arith,
  drop_while_shorter,
  (drop_while_shorter in_number rest),
  (drop_while_shorter in_number (after_number rest)),
)

-- ==== The tests at the start of a span find the error that the table of first errors gives.

-- A fraction has no digits.
no_digits : (fraction : Option (List ℕ))
    → Decides (is_some_and (λ ds. length ds == 0) fraction) (fraction ≡ Some [])
no_digits (Some (d ∷ ds)) = grind (arith, nat_tests)
no_digits fraction = grind arith

-- The text may begin a word.
word_tells : (cs : List ℕ)
    → Decides (at_letter_or_end cs)
    ((take_while is_letter cs ≢ []) ⊎ (drop_while is_letter cs ≡ []))
word_tells cs = grind (arith, common_steps)

-- Neither a digit nor whitespace follows the number and the fraction, so no span ends there without
-- a word.
no_word_ends : (cs : List ℕ) → begins in_number cs ≡ false → take_while is_letter cs ≡ []
    → drop_while is_letter cs ≢ []
    → may_follow_span (drop_while is_letter cs) ≡ false
no_word_ends cs e none more = grind arith

pub some_letters : (word : List ℕ) → IsSome (scale_of_word word) → word ≢ []
unfolding scale_of_word
some_letters word h e = grind arith

-- An error of the table is found by the tests.
pub stop_is_fault : (text front : List ℕ) (spans : List SpelledSpan) (rest : List ℕ) (e : Fault)
    → rest ≢ [] → IsStoppedWith text front spans rest e → fault_at text rest ≡ Some e
unfolding fault_at scale_of_word
stop_is_fault text front spans rest e some stops =
    grind (
      arith,
      common_steps,
      nat_tests,
      (word_tells (after_fraction rest)),
      (no_word_ends (after_fraction rest) (grind (arith, begins-drop_while))),
      (take_while-drop_while is_letter (after_fraction rest)),
    )

-- The tests find no error in a whole span.
pub span_has_no_fault : (text rest : List ℕ) → BeginsWithSpan rest → fault_at text rest ≡ None
unfolding fault_at
span_has_no_fault text rest s = grind (arith, common_steps, some_letters)

-- An error that the tests find is one of the table.
pub fault_is_stop : (text front : List ℕ) (spans : List SpelledSpan) (rest : List ℕ) (e : Fault)
    → rest ≢ [] → (begins is_digit rest ≡ false → (spans ≡ []) ⊎ (ends is_whitespace front ≡ true))
    → fault_at text rest ≡ Some e → IsStoppedWith text front spans rest e
unfolding fault_at
fault_is_stop text front spans rest e some first found =
    let bare : at_letter_or_end (after_fraction rest) ≡ true
    → (word_of rest ≢ []) ⊎ (after_word rest ≡ []) = (word_tells (after_fraction rest)).0 in
    let word : word_of rest ≢ [] → at_letter_or_end (after_fraction rest) ≡ true =
    λ w. (word_tells (after_fraction rest)).1 (inl w) in
    grind (
      arith,
      bare,
      word,
      (no_digits (fraction_of rest)),
      (no_word_ends (after_fraction rest) (grind (arith, begins-drop_while))),
    )

-- If the tests find no error, the rest begins with a whole span.
pub no_fault_is_span : (text rest : List ℕ) → fault_at text rest ≡ None → BeginsWithSpan rest
unfolding fault_at
no_fault_is_span text rest s =
    grind (arith, (word_tells (after_fraction rest)), (some_letters (word_of rest)))

-- ==== A rest that begins with a well-formed span is a spelling of that span followed by the text
-- after it.

-- The point and the text after it up to the word, if a text begins with a point.
abbrev pub point_and_digits : List ℕ → List ℕ
point_and_digits [] = []
point_and_digits (c ∷ cs) = if is_point c then c ∷ take_while in_number cs else []

-- A spelling of the span at the start of the rest ends in whitespace if no digit follows it.
pub written_here : (rest : List ℕ) → BeginsWithSpan rest
    → (here : List ℕ) × (rest ≡ here ++ next_of rest) × Spells here (span_of rest) []
    × (next_of rest ≢ [] → begins is_digit (next_of rest) ≡ false → ends is_whitespace here ≡ true)
unfolding is_point
written_here rest h = (
  take_while in_number rest ++ (point_and_digits (after_number rest)
      ++ (word_of rest ++ take_while is_whitespace (after_word rest))),
  grind (arith, common_steps, take_while-drop_while),
  grind (
    arith,
    append-nil,
    take_while-only,
    begins_take_while,
    digit_in_number,
    nat_tests,
    (some_letters (word_of rest) h.unit),
    (h),
  ),
  λ more e. grind (arith, ends-append, ends_only, take_while-only, (h.ended), (more), (e)),
)
