-- The items of a text, and what each borrows from it. A text is its list of characters.
use Rattle.std.specs.Prelude.{◌≡◌, ◌≢◌, List, ℕ, [], Option, Some, None, true, ◌∷◌, ◌++◌, Result, Ok, Err, map, option_to_list, option_map}
use Rattle.std.specs.List.{AllByRecursion}
use Rattle.std.specs.Str.{byte}
use Rattle.humantime.specs.Durations.{SpelledSpan, HasOnly, Spells, Formed}
use Rattle.humantime.specs.DurationErrors.{Fault, Split, IsStoppedWith}
use Rattle.humantime.specs.Characters.{begins, ends, drop_while, decimal_value, is_whitespace, is_digit, offset_of}

-- The text ends after the spans, of which there is at least one, or it stops there with the fault.
abbrev pub EndsOrStops : List ℕ → List ℕ → List SpelledSpan → List ℕ → Option Fault → Type 0
EndsOrStops text front spans rest None = (rest ≡ []) × (spans ≢ [])
EndsOrStops text front spans rest (Some e) = IsStoppedWith text front spans rest e

-- The text is these spans, each formed, followed by the end of the text or by the fault.
pub record Items (text : List ℕ) (spans : List SpelledSpan) (stop : Option Fault) : Type 0 where
  pub front : List ℕ
  pub rest : List ℕ
  pub split : Split text front spans rest
  pub formed : AllByRecursion Formed spans
  pub ends : EndsOrStops text front spans rest stop

-- The spans of a text, and the fault that stops them, if any.
pub record SpansAndStop : Type 0 where
  pub spans : List SpelledSpan
  pub stop : Option Fault

-- The text is these spans, each formed, followed by the end of the text or by the fault.
abbrev pub AreSpansAndStop : List ℕ → SpansAndStop → Type 0
AreSpansAndStop text x = Items text x.spans x.stop

-- The view of a span: the slices that it borrows, the byte offsets of its start and of the end of
-- its word, and the value of its number.
pub record SpanView : Type 0 where
  pub number : List ℕ
  pub fraction : Option (List ℕ)
  pub unit : List ℕ
  pub start : ℕ
  pub end : ℕ
  pub value : ℕ

-- The slice is the text without its leading and trailing whitespace, and begins and ends with a
-- digit.
pub record IsDigitSlice (text slice : List ℕ) : Type 0 where
  pub before : List ℕ
  pub after : List ℕ
  pub whole : text ≡ before ++ (slice ++ after)
  pub only_before : HasOnly is_whitespace before
  pub only_after : HasOnly is_whitespace after
  pub first_digit : begins is_digit slice ≡ true
  pub last_digit : ends is_digit slice ≡ true

-- There is no slice, and the text is empty; or the text begins with a point, and the slice goes
-- from the first to the last digit after it.
abbrev pub IsFractionSlice : List ℕ → Option (List ℕ) → Type 0
IsFractionSlice text None = text ≡ []
IsFractionSlice text (Some slice) =
    (after : List ℕ) × (text ≡ byte "." ∷ after) × IsDigitSlice after slice

-- The text from `here` on is the span followed by `next`, and `x` is the view of the span.
pub record IsSpanView (text here : List ℕ) (s : SpelledSpan) (x : SpanView)
    (next : List ℕ) : Type 0 where
  pub spelled : Spells here s next
  pub number : IsDigitSlice spelled.number_text x.number
  pub fraction : IsFractionSlice spelled.fraction_text x.fraction
  pub unit : x.unit ≡ s.word
  pub start : x.start ≡ offset_of text here
  pub end : x.end ≡ offset_of text (spelled.whitespace ++ next)
  pub value : x.value ≡ decimal_value s.number

-- The text from `here` to `end` represents the spans, and each view is that of its span.
abbrev pub AreSpanViews : List ℕ → List ℕ → List SpelledSpan → List SpanView → List ℕ → Type 0
AreSpanViews text here [] [] end = here ≡ end
AreSpanViews text here (s ∷ ss) (x ∷ xs) end =
    (next : List ℕ) × IsSpanView text here s x next × AreSpanViews text next ss xs end
AreSpanViews text here _ _ end = ⊥

-- Returns the list of what was found, followed by the fault, if there is one.
abbrev pub items_of : {A : Type 0} → List A → Option Fault → List (Result A Fault)
items_of found stop = map Ok found ++ option_to_list (option_map Err stop)

-- The items are the views of the spans, followed by the fault, if there is one.
pub record AreItems (text : List ℕ) (listed : List (Result SpanView Fault)) : Type 0 where
  pub spans : List SpelledSpan
  pub stop : Option Fault
  pub views : List SpanView
  pub items : Items text spans stop
  pub listed_are : listed ≡ items_of views stop
  pub each : AreSpanViews text (drop_while is_whitespace text) spans views items.rest
