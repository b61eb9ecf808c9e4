-- The grammar of spans, each row of the table of first errors, the items of a text and the views of
-- spans: each rule written out for any text, wherever its parts begin.
use Rattle.humantime.specs.Characters.{take_while, drop_while, begins, ends, is_whitespace, is_digit, is_letter, is_point}
use Rattle.humantime.specs.DurationErrors.{number_of, after_number, fraction_of, after_fraction, word_of, after_word, span_of, may_follow_span, Fault, InvalidCharacter, NumberExpected, UnknownUnit, NumberOverflow, Empty, Split, BeginsWithNumber, IsStoppedWith, OnlyWhitespace, NoNumber, DigitsOverflow, NoLetterAfterNumber, PointWithoutDigits, NoLetterAfterPoint, WordNotEnded, NoWord, UnknownWord, BreaksLimit, HasFault, fault_of, fault_offset, result_view, text_result_view}
use Rattle.humantime.specs.Durations.{SpelledSpan, Spells, SpellsFraction, SpellsSpans, SpellsFront, Reads, Formed, WithinLimits, scale_of_word, digits_overflow}
use Rattle.humantime.specs.Items.{EndsOrStops, Items, SpanView, IsDigitSlice, IsFractionSlice, IsSpanView, AreSpanViews, AreItems}
use Rattle.std.proofs.Common.{◌≡◌, ◌≢◌, ◌⊎◌, ℕ, ◌-◌, List, [], ◌∷◌, ◌++◌, None, Some, Ok, Err, map, filter, length, drop, refl, Bool, true, false, ◌||◌, codes, encode_utf8_all, if◌then◌else◌, option_map, option_to_list, Option, IsSome, Bor}
use Rattle.std.specs.List.{AllByRecursion}
use Rattle.std.specs.Str.Parse.{digits_value}
use Rattle.humantime.specs.declared.duration.error.DurationError.{DurationError}
use Rattle.humantime.specs.declared.duration.error.DurationError.TheVariants as errors

abbrev Only : (ℕ → Bool) → List ℕ → Type 0
Only passes text = AllByRecursion (λ c. passes c ≡ true) text

abbrev numeric : ℕ → Bool
numeric c = is_digit c || is_whitespace c

abbrev offset : List ℕ → List ℕ → ℕ
offset text rest = length (encode_utf8_all text) - length (encode_utf8_all rest)

-- ---- parts of a text

-- The first characters that pass a test and what follows them, and the first and the last
-- character, at any length.
any_prefix : (p : ℕ → Bool) (c d : ℕ) (cs : List ℕ)
    → (take_while p (c ∷ cs) ≡ (if p c then c ∷ take_while p cs else [])) × (take_while p [] ≡ [])
    × (drop_while p (c ∷ cs) ≡ (if p c then drop_while p cs else c ∷ cs)) × (drop_while p [] ≡ [])
    × (begins p (c ∷ cs) ≡ p c) × (begins p [] ≡ false)
    × (ends p (c ∷ d ∷ cs) ≡ ends p (d ∷ cs)) × (ends p (c ∷ []) ≡ p c) × (ends p [] ≡ false)
any_prefix p c d cs = (refl, refl, refl, refl, refl, refl, refl, refl, refl)

-- The number, the fraction and the word at the start of any rest, each as long as possible, and
-- what follows each.
any_rest : (rest : List ℕ) → let after = drop_while numeric rest in let digits = drop 1 after in
    (number_of rest ≡ filter is_digit (take_while numeric rest)) × (after_number rest ≡ after)
    × (begins is_point after ≡ false → (fraction_of rest ≡ None) × (after_fraction rest ≡ after))
    × (begins is_point after ≡ true
    → (fraction_of rest ≡ Some (filter is_digit (take_while numeric digits)))
    × (after_fraction rest ≡ drop_while numeric digits))
    × (word_of rest ≡ take_while is_letter (after_fraction rest))
    × (after_word rest ≡ drop_while is_letter (after_fraction rest))
    × (span_of rest ≡ record { number = number_of rest; fraction = fraction_of rest; word = word_of rest })
any_rest rest = (
  refl,
  refl,
  λ none. (rw none refl, rw none refl),
  λ some. (rw some refl, rw some refl),
  refl,
  refl,
  refl,
)

any_end : (c : ℕ) (cs : List ℕ)
    → (may_follow_span [] ≡ true) × (may_follow_span (c ∷ cs) ≡ numeric c)
any_end c cs = (refl, refl)

-- ---- spans

-- Nothing else is asked of the parts of a span.
any_span : (number fraction space rest : List ℕ) (s : SpelledSpan) → begins is_digit number ≡ true
    → Only numeric number
    → filter is_digit number ≡ s.number → SpellsFraction fraction s.fraction → Only is_letter s.word
    → s.word ≢ []
    → Only is_whitespace space → Spells (number ++ (fraction ++ (s.word ++ (space ++ rest)))) s rest
any_span number fraction space rest s starts only digits spelled letters some white = record {
  number_text = number;
  fraction_text = fraction;
  whitespace = space;
  whole = refl;
  starts = starts;
  number = (only, digits);
  fraction = spelled;
  word = (letters, some);
  only_whitespace = white;
}

any_fraction : (text ds : List ℕ) → SpellsFraction [] None
    × (Only numeric text → filter is_digit text ≡ ds → ds ≢ [] → SpellsFraction (codes "." ++ text) (Some ds))
any_fraction text ds = (refl, λ only digits some. (text, refl, (only, digits), some))

any_spans : (space body : List ℕ) (spans : List SpelledSpan) → Only is_whitespace space
    → SpellsSpans body spans → spans ≢ []
    → Reads (space ++ body) spans
any_spans space body spans white each some =
    (record { whitespace = space; body = body; whole = refl; only_whitespace = white; each = each }, some)

each_span : (text : List ℕ) (s : SpelledSpan) (spans : List SpelledSpan) → SpellsSpans [] []
    × ((rest : List ℕ) → Spells text s rest → SpellsSpans rest spans → SpellsSpans text (s ∷ spans))
each_span text s spans = (refl, λ rest first others. (rest, first, others))

-- ---- the rows of the table, for a text that is spans and a rest

module _ (text front rest : List ℕ) (spans : List SpelledSpan) where
  abbrev Row : Fault → Type 0
  Row e = IsStoppedWith text front spans rest e

  any_row : (spans ≡ [] → rest ≡ [] → Row Empty)
      × (rest ≢ [] → begins is_digit rest ≡ false → (spans ≡ []) ⊎ (ends is_whitespace front ≡ true)
      → Row (NumberExpected (offset text rest)))
      × (begins is_digit rest ≡ true → digits_overflow (span_of rest) ≡ true → Row NumberOverflow)
  any_row = (
    λ none end. OnlyWhitespace none end refl,
    λ some other at. NoNumber some other at refl,
    λ digit long. DigitsOverflow digit long refl,
  )

  number : begins is_digit rest ≡ true → digits_overflow (span_of rest) ≡ false
      → BeginsWithNumber rest
  number digit short = record { digit = digit; digits_fit = short }

  after_number_or_point : BeginsWithNumber rest → let here =
      InvalidCharacter (offset text (after_word rest)) in
      (fraction_of rest ≡ None → word_of rest ≡ [] → after_word rest ≢ [] → Row here)
      × (fraction_of rest ≡ Some [] → (word_of rest ≢ []) ⊎ (after_word rest ≡ [])
      → Row (InvalidCharacter (offset text (after_number rest))))
      × (IsSome (fraction_of rest) → word_of rest ≡ [] → after_word rest ≢ [] → Row here)
  after_number_or_point begun = (
    λ none empty other. NoLetterAfterNumber begun none empty other refl,
    λ empty next. PointWithoutDigits begun empty next refl,
    λ some empty other. NoLetterAfterPoint begun some empty other refl,
  )

  after_word_or_end : BeginsWithNumber rest → fraction_of rest ≢ Some []
      → let end = length (encode_utf8_all text) in let value = digits_value 10 (number_of rest) in
      let after = offset text (after_word rest) in
      (word_of rest ≢ [] → may_follow_span (after_word rest) ≡ false → Row (InvalidCharacter after))
      × (word_of rest ≡ [] → after_word rest ≡ [] → Row (UnknownUnit end end [] value))
      × (word_of rest ≢ [] → scale_of_word (word_of rest) ≡ None → may_follow_span (after_word rest) ≡ true
      → Row (UnknownUnit (offset text (after_fraction rest)) after (encode_utf8_all (word_of rest)) value))
      × (IsSome (scale_of_word (word_of rest)) → may_follow_span (after_word rest) ≡ true
      → ¬ (WithinLimits (spans ++ span_of rest ∷ []))
      → BreaksLimit spans rest NumberOverflow)
  after_word_or_end begun digits = (
    λ some other. WordNotEnded begun digits some other refl,
    λ none end. NoWord begun digits none end refl,
    λ some unknown ended. UnknownWord begun digits some unknown ended refl,
    λ unit ended beyond.
        record {
          span = record { number = begun; digits = digits; unit = unit; ended = ended };
          beyond = beyond;
          fault = refl;
        },
  )

  -- Nothing else is asked of the first error, nor of the items.
  split : text ≡ front ++ rest → SpellsFront front spans → begins is_whitespace rest ≡ false
      → Split text front spans rest
  split whole spelled start = record { whole = whole; spelled = spelled; no_whitespace = start }

  any_error : (e : Fault) → text ≢ codes "0" → Split text front spans rest → WithinLimits spans
      → Row e ⊎ BreaksLimit spans rest e
      → HasFault text e
  any_error e other split within row =
      record {
        not_zero = other;
        front = front;
        rest = rest;
        spans = spans;
        split = split;
        within = within;
        row = row;
      }

  any_stop : (stop : Option Fault) → Split text front spans rest → AllByRecursion Formed spans
      → EndsOrStops text front spans rest stop
      → Items text spans stop
  any_stop stop split formed ends =
      record { front = front; rest = rest; split = split; formed = formed; ends = ends }

  end_or_stop : (e : Fault) → (rest ≡ [] → spans ≢ [] → EndsOrStops text front spans rest None)
      × (Row e → EndsOrStops text front spans rest (Some e))
  end_or_stop e = (λ end some. (end, some), λ row. row)

-- ---- errors and the views of spans

-- An error as data has all that the error holds, and a result as data its value or its error. All
-- but an overflow point to an offset.
any_fault : (at start end value : ℕ) (unit : Bor (List ℕ)) (e : DurationError)
    → let faults = InvalidCharacter at ∷ NumberExpected at ∷ UnknownUnit start end unit.now value
    ∷ NumberOverflow ∷ Empty ∷ [] in
    (map fault_of (errors.InvalidCharacter at ∷ errors.NumberExpected at ∷ errors.UnknownUnit start
    end unit value ∷ errors.NumberOverflow ∷ errors.Empty ∷ []) ≡ faults)
    × (map fault_offset faults ≡ Some at ∷ Some at ∷ Some start ∷ None ∷ Some 0 ∷ [])
    × (result_view (Ok value) ≡ Ok value) × (result_view (Err e) ≡ Err (fault_of e))
    × (text_result_view (Ok unit) ≡ Ok unit.now) × (text_result_view (Err e) ≡ Err (fault_of e))
any_fault at start end value unit e = (refl, refl, refl, refl, refl, refl)

-- A slice goes from the first digit to the last.
any_slice : (before slice after : List ℕ) → Only is_whitespace before → Only is_whitespace after
    → begins is_digit slice ≡ true
    → ends is_digit slice ≡ true → IsDigitSlice (before ++ (slice ++ after)) slice
any_slice before slice after white more first last =
    record {
      before = before;
      after = after;
      whole = refl;
      only_before = white;
      only_after = more;
      first_digit = first;
      last_digit = last;
    }

any_view : (text here next : List ℕ) (s : SpelledSpan) (x : SpanView) (is : Spells here s next)
    → IsDigitSlice is.number_text x.number
    → IsFractionSlice is.fraction_text x.fraction → x.unit ≡ s.word → x.start ≡ offset text here
    → x.end ≡ offset text (is.whitespace ++ next) → x.value ≡ digits_value 10 s.number
    → IsSpanView text here s x next
any_view text here next s x is number fraction unit start end value =
    record {
      spelled = is;
      number = number;
      fraction = fraction;
      unit = unit;
      start = start;
      end = end;
      value = value;
    }

any_fraction_view : (text slice : List ℕ) → IsFractionSlice [] None
    × (IsDigitSlice text slice → IsFractionSlice (codes "." ++ text) (Some slice))
any_fraction_view text slice = (refl, λ is. (text, refl, is))

any_views : (text here : List ℕ) (s : SpelledSpan) (ss : List SpelledSpan) (x : SpanView)
    (xs : List SpanView) (end : List ℕ)
    → AreSpanViews text here [] [] here
    × ((next : List ℕ) → IsSpanView text here s x next → AreSpanViews text next ss xs end
    → AreSpanViews text here (s ∷ ss) (x ∷ xs) end)
any_views text here s ss x xs end = (refl, λ next first others. (next, first, others))

-- The items are the views of the spans, and then the error, if there is one. So none follows an
-- error.
any_items : (text : List ℕ) (spans : List SpelledSpan) (stop : Option Fault) (views : List SpanView)
    (is : Items text spans stop)
    → AreSpanViews text (drop_while is_whitespace text) spans views is.rest
    → AreItems text (map Ok views ++ option_to_list (option_map Err stop))
any_items text spans stop views is each =
    record { spans = spans; stop = stop; views = views; items = is; listed_are = refl; each = each }
