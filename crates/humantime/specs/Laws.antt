-- The statements of the laws.
use Rattle.std.specs.Prelude.{◌≡◌, ℕ, ◌≢◌, ◌↔◌, ◌⊎◌, ◌+◌, List, ◌++◌, Ok, Err, filter, not, IsPermutation, Bool, ◌||◌, [], ◌∷◌, Result, option_to_list, Option, Some, None, true, is_ok, flat_map, ◌≤◌, length, chars, slice_index, ◌*◌, ◌/◌, ◌^◌, IsOk, ⊤, ℤ, pos, IsTrue}
use Rattle.std.specs.List.{list_all, AllByRecursion}
use Rattle.std.specs.Cmp.Lexicographic.{slice_cmp}
use Rattle.std.specs.Ordering.{nat_cmp, int_cmp}
use Rattle.std.specs.Str.{byte}
use Rattle.humantime.specs.Calendar.{IsDate, day_of}
use Rattle.humantime.specs.declared.calendar.Date.{Date}
use Rattle.humantime.specs.Characters.{is_whitespace, bare_zero, is_point, decimal_value, max_fraction_digits, u64_max}
use Rattle.humantime.specs.Durations.{SpelledSpan, Reads, additions, AllHaveRoom, WithinLimits, Accepted, HasOnly, value, Quantity, Scale, scale_of_word, size, with_size, times, total, is_exact_fraction}
use Rattle.humantime.specs.DurationErrors.{NumberOverflow, HasFault, Fault}
use Rattle.humantime.specs.DurationResults.{duration_answer, duration_text, canonical_answer}
use Rattle.humantime.specs.Items.{SpanView, Items, AreSpansAndStop, AreItems}
use Rattle.humantime.specs.PrintedDurations.{AreCounts, IsCanonicalText, CanonicalizesTo}
use Rattle.humantime.specs.declared.date.error.TimestampError.{TimestampError}
use Rattle.humantime.specs.Timestamps.{Check, Fields, IsWeak, IsStrict, moment_of, IsWeakMoment, IsStrictMoment, cut, IsPrinted, IsPrintable, ends_in_zone, first_failed}
use Rattle.humantime.specs.TimestampResults.{strict_answer, weak_answer, moment_text}

-- ==== Existence and uniqueness, for all laws.

-- Exactly one value has this property.
abbrev pub ExactlyOne : {A : Type 0} → (A → Type 0) → Type 0
ExactlyOne {A} IsSo = (x : A) × IsSo x × ((other : A) → IsSo other → other ≡ x)

-- At most one value has this property.
abbrev pub AtMostOne : {A : Type 0} → (A → Type 0) → Type 0
AtMostOne {A} IsSo = (x other : A) → IsSo x → IsSo other → x ≡ other

-- ==== The law of day numbers.

-- The date exists, and is `n` days after 1970-01-01.
abbrev pub IsDateOfDay : ℕ → Date → Type 0
IsDateOfDay n d = IsDate d × (day_of d ≡ n)

-- ==== Laws of accepted texts: whitespace can be removed, texts can be joined, and spans can be
-- reordered. A text is its list of characters.

-- Removes the whitespace of a text.
abbrev pub without_whitespace : List ℕ → List ℕ
without_whitespace text = filter (λ c. not (is_whitespace c)) text

-- The text is accepted if and only if it is exactly `0`, or spans within the limits.
abbrev pub IsZeroOrSpans : List ℕ → Type 0
IsZeroOrSpans text = ((v : ℕ) × Accepted text v)
    ↔ ((text ≡ bare_zero) ⊎ ((spans : List SpelledSpan) × Reads text spans × WithinLimits spans))

-- The text is these spans, and is accepted with this value.
abbrev pub AcceptedAs : List ℕ → List SpelledSpan → ℕ → Type 0
AcceptedAs text spans v = Reads text spans × Accepted text v

-- The two texts have the same spans, possibly in a different order.
pub record AreReordered (a b : List ℕ) : Type 0 where
  pub spans : List SpelledSpan
  pub others : List SpelledSpan
  pub reads : Reads a spans
  pub other_reads : Reads b others
  pub moved : IsPermutation spans others

-- An accepted text keeps its value if its whitespace is removed.
pub record KeepsValueWithoutWhitespace (text : List ℕ) : Type 0 where
  pub value : (v : ℕ) → Accepted text v → Accepted (without_whitespace text) v
  -- The same holds of the results of parsing.
  pub answer : (v : ℕ) → duration_answer text ≡ Ok v
      → duration_answer (without_whitespace text) ≡ Ok v

-- If two accepted texts other than `0` are joined, the result is the sum, or an overflow if an
-- addition does not fit.
pub record AddWhenJoined (a b : List ℕ) : Type 0 where
  -- Each of the texts is accepted if and only if it is exactly `0`, or spans within the limits.
  pub first : IsZeroOrSpans a
  pub second : IsZeroOrSpans b
  -- The joined text is accepted with the sum if and only if no addition overflows, where those of
  -- the second text follow those of the first.
  pub sum : (ss ts : List SpelledSpan) (u v : ℕ) → AcceptedAs a ss u → AcceptedAs b ts v
      → Accepted (a ++ b) (u + v) ↔ AllHaveRoom (additions ss ++ additions ts)
  -- The fault of the joined text is an overflow if and only if an addition overflows.
  pub overflow : (ss ts : List SpelledSpan) (u v : ℕ) → AcceptedAs a ss u → AcceptedAs b ts v
      → HasFault (a ++ b) NumberOverflow ↔ ¬ (AllHaveRoom (additions ss ++ additions ts))
  -- Therefore the joined text is accepted with the sum, or its fault is an overflow.
  pub one : (u v : ℕ) → Accepted a u → Accepted b v → a ≢ bare_zero → b ≢ bare_zero
      → Accepted (a ++ b) (u + v) ⊎ HasFault (a ++ b) NumberOverflow
  -- The same holds of the results of parsing.
  pub answer : (u v : ℕ) → duration_answer a ≡ Ok u → duration_answer b ≡ Ok v → a ≢ bare_zero
      → b ≢ bare_zero
      → (duration_answer (a ++ b) ≡ Ok (u + v)) ⊎ (duration_answer (a ++ b) ≡ Err NumberOverflow)

-- Two accepted texts whose spans are the same up to their order have equal values. The text `0` has
-- no spans.
pub record KeepValueReordered (a b : List ℕ) : Type 0 where
  pub value : (ss ts : List SpelledSpan) (u v : ℕ) → Reads a ss → Reads b ts → IsPermutation ss ts
      → Accepted a u → Accepted b v → u ≡ v
  -- The same holds of the results of parsing.
  pub answer : (ss ts : List SpelledSpan) (u v : ℕ) → Reads a ss → Reads b ts → IsPermutation ss ts
      → duration_answer a ≡ Ok u → duration_answer b ≡ Ok v → u ≡ v
  -- Therefore the results of parsing two such texts are equal, whatever their spans are.
  pub alike : AreReordered a b → (u v : ℕ) → duration_answer a ≡ Ok u → duration_answer b ≡ Ok v
      → u ≡ v
  pub zero : (spans : List SpelledSpan) → ¬ (Reads bare_zero spans)

-- ==== Texts that slices tile. A text is its list of characters.

-- Returns the slices of an item from left to right: the number, the fraction, if any, and the unit
-- of a span, or none for a fault.
abbrev pub slices_of : Result SpanView Fault → List (List ℕ)
slices_of (Ok span) = span.number ∷ option_to_list span.fraction ++ span.unit ∷ []
slices_of (Err e) = []

-- Tests whether a character may lie in no slice.
abbrev pub is_gap : ℕ → Bool
is_gap c = is_whitespace c || is_point c

-- The text is the slices in this order, with only whitespace and points before, between and after
-- them. So each character of the text lies in exactly one slice, or in none and is whitespace or a
-- point.
abbrev pub IsTiled : List ℕ → List (List ℕ) → Type 0
IsTiled text [] = HasOnly is_gap text
IsTiled text (slice ∷ slices) = (gap : List ℕ) × (after : List ℕ) × (text ≡ gap ++ (slice ++ after))
    × HasOnly is_gap gap × IsTiled after slices

-- ==== The outcome of a text: exactly one value or exactly one fault, at most one list of spans and
-- one list of items; and how its items determine the outcome. A text is its list of characters.

-- The outcome of a text is the value with which it is accepted, or its fault.
abbrev pub IsOutcome : List ℕ → Result ℕ Fault → Type 0
IsOutcome text (Ok v) = Accepted text v
IsOutcome text (Err e) = HasFault text e

-- A text has exactly one value or fault, which is the result of parsing it, exactly one list of
-- items, and at most one list of spans.
pub record HasOneOutcome (text : List ℕ) : Type 0 where
  -- The text has exactly one value and no fault, or exactly one fault and no value.
  pub outcome : ExactlyOne (IsOutcome text)
  pub reading : AtMostOne (Reads text)
  -- The text has exactly one list of spans, with the fault that stops them, if any.
  pub items : ExactlyOne (AreSpansAndStop text)
  -- The result of parsing is a value if and only if that is the value of the text.
  pub value : (v : ℕ) → (duration_answer text ≡ Ok v) ↔ Accepted text v
  -- The result of parsing is a fault if and only if that is the fault of the text.
  pub fault : (e : Fault) → (duration_answer text ≡ Err e) ↔ HasFault text e

-- The items of a text determine its value or fault, unless the text is exactly `0`.
pub record ItemsDecide (text : List ℕ) : Type 0 where
  -- The text has exactly one list of spans, with the fault that stops them, if any.
  pub one : ExactlyOne (AreSpansAndStop text)
  -- The text is accepted if and only if no fault stops the spans and they are within the limits.
  -- Its value is then their sum.
  pub accepted : (spans : List SpelledSpan) (stop : Option Fault) → Items text spans stop
      → text ≢ bare_zero
      → (v : ℕ) → Accepted text v ↔ ((stop ≡ None) × WithinLimits spans × (value spans ≡ v))
  -- If the spans are within the limits, the fault of the text is the one that stops them.
  pub stopped : (spans : List SpelledSpan) (e : Fault) → Items text spans (Some e)
      → text ≢ bare_zero
      → WithinLimits spans → HasFault text e
  -- Therefore, if the first item is a fault, it is the result of parsing.
  pub first : (listed others : List (Result SpanView Fault)) (e : Fault) → AreItems text listed
      → listed ≡ Err e ∷ others
      → text ≢ bare_zero → duration_answer text ≡ Err e
  -- If the spans are not within the limits, the fault is an overflow, whatever stops them.
  pub too_large : (spans : List SpelledSpan) (stop : Option Fault) → Items text spans stop
      → text ≢ bare_zero
      → ¬ (WithinLimits spans) → HasFault text NumberOverflow

-- A text has exactly one list of items, and their slices tile the text up to where the spans stop.
pub record ItemsTile (text : List ℕ) : Type 0 where
  pub one : ExactlyOne (AreItems text)
  -- Therefore any two such lists are equal.
  pub same : (listed others : List (Result SpanView Fault)) → AreItems text listed
      → AreItems text others → others ≡ listed
  -- Up to where the spans stop, each character lies in exactly one slice of one span, or in none
  -- and is whitespace or a point.
  pub front : (listed : List (Result SpanView Fault)) (are : AreItems text listed)
      → IsTiled are.items.front (flat_map slices_of listed)
  -- If no item is a fault, this holds for each character of the text.
  pub whole : (listed : List (Result SpanView Fault)) → AreItems text listed
      → list_all is_ok listed ≡ true
      → IsTiled text (flat_map slices_of listed)

-- ==== The laws of printed durations. A text is its list of bytes, which `chars` decodes into
-- characters.

-- A duration has exactly one canonical text, which is the printed one, and which parses to the
-- duration.
pub record PrintsAndReads (d : ℕ) : Type 0 where
  pub one : ExactlyOne (IsCanonicalText d)
  pub printed : IsCanonicalText d (duration_text d)
  pub only : (bytes : List ℕ) → IsCanonicalText d bytes → bytes ≡ duration_text d
  -- It is accepted with the value `d`.
  pub reads : (bytes : List ℕ) → IsCanonicalText d bytes → Accepted (chars bytes) d
  -- Therefore parsing it returns `d`.
  pub answer : duration_answer (chars (duration_text d)) ≡ Ok d

-- The canonical texts of two durations, and so the printed ones, are equal if and only if the
-- durations are.
pub record TextsTellApart (a b : ℕ) : Type 0 where
  pub canon : (bytes other : List ℕ) → IsCanonicalText a bytes → IsCanonicalText b other
      → ((bytes ≡ other) ↔ (a ≡ b))
  pub text : (duration_text a ≡ duration_text b) ↔ (a ≡ b)

-- A canonical text has at most 64 bytes, and counts at most 11 months and 30 days.
pub record PrintsWithinBounds (d : ℕ) : Type 0 where
  pub length : (bytes : List ℕ) → IsCanonicalText d bytes → length bytes ≤ 64
  pub counts : (counts : List ℕ) → AreCounts d counts
      → ((slice_index counts 1 ≤ 11) × (slice_index counts 2 ≤ 30))

-- The canonical text of an accepted text has the same value and is its own canonical text.
-- `canonical` returns it, or the fault.
pub record IsCanonicalAgain (s : List ℕ) : Type 0 where
  -- An accepted text has a canonical text.
  pub some : (v : ℕ) → Accepted (chars s) v → (printed : List ℕ) × CanonicalizesTo s printed
  -- The canonical text is accepted with the same value.
  pub value : (v : ℕ) (printed : List ℕ) → Accepted (chars s) v → CanonicalizesTo s printed
      → Accepted (chars printed) v
  -- It is its own canonical text, and has no other.
  pub again : (printed again : List ℕ) → CanonicalizesTo s printed
      → (CanonicalizesTo printed again ↔ (again ≡ printed))
  -- The same two properties hold of the results of the calls.
  pub answer : (t : List ℕ) → canonical_answer (chars s) ≡ Ok t → canonical_answer (chars t) ≡ Ok t
  pub reads : (v : ℕ) (t : List ℕ) → duration_answer (chars s) ≡ Ok v
      → canonical_answer (chars s) ≡ Ok t → duration_answer (chars t) ≡ Ok v
  -- The result is the canonical text, or the fault.
  pub text : (t : List ℕ) → (canonical_answer (chars s) ≡ Ok t) ↔ CanonicalizesTo s t
  pub fault : (e : Fault) → (canonical_answer (chars s) ≡ Err e) ↔ HasFault (chars s) e

-- ==== The texts that were accepted while trailing zeros of a fraction counted towards its limits.
-- The Greek letter mu, U+03BC, was not a letter then; it is one in these definitions, so they
-- accept more texts. A text is its list of characters.

-- While trailing zeros counted, a fraction had at most 19 digits and denoted a whole number of
-- nanoseconds or of seconds, and nanoseconds had no fraction.
abbrev pub OlderFraction : Option Quantity → Option (List ℕ) → Type 0
OlderFraction _ None = ⊤
OlderFraction None (Some ds) = ⊥
OlderFraction (Some x) (Some ds) =
    (length ds ≤ max_fraction_digits) × (is_exact_fraction (size x) ds ≡ true)

-- The word was a unit, the number and its product with the size of the unit fit a `u64`, and the
-- fraction was within its limits with all of its digits.
pub record OlderFormed (s : SpelledSpan) : Type 0 where
  pub unit : Scale
  pub word : scale_of_word s.word ≡ Some unit
  pub number : decimal_value s.number ≤ u64_max
  pub product : decimal_value s.number * size unit.one ≤ u64_max
  pub fraction : OlderFraction unit.for_fractions s.fraction

-- Returns the part of a quantity that all of the fraction digits `ds` denote, trailing zeros
-- included, rounded down.
abbrev pub older_part : List ℕ → Quantity → Quantity
older_part ds x = with_size x (decimal_value ds * size x / 10 ^ length ds)

-- Returns what a fraction added: nothing if there was none or its unit had no fractions.
abbrev pub older_fraction_additions : Option Quantity → Option (List ℕ) → List Quantity
older_fraction_additions (Some x) (Some ds) = older_part ds x ∷ []
older_fraction_additions _ _ = []

-- Returns what a span added if its unit had this scale: its number first, and then its fraction.
abbrev pub older_additions_at : Option Scale → SpelledSpan → List Quantity
older_additions_at None s = []
older_additions_at (Some u) s =
    times (decimal_value s.number) u.one ∷ older_fraction_additions u.for_fractions s.fraction

-- Returns what a span added.
abbrev pub older_additions_of : SpelledSpan → List Quantity
older_additions_of s = older_additions_at (scale_of_word s.word) s

-- Returns what the spans added, each number before its fraction.
abbrev pub older_additions : List SpelledSpan → List Quantity
older_additions spans = flat_map older_additions_of spans

-- Returns the sum of what the spans added, in nanoseconds.
abbrev pub older_value : List SpelledSpan → ℕ
older_value spans = total (older_additions spans)

-- While trailing zeros of a fraction counted, the text was accepted and denoted `v` nanoseconds.
pub data AcceptedWithZeros (text : List ℕ) (v : ℕ) : Type 0 where
  -- The text was exactly `0`.
  OlderZero : text ≡ bare_zero → v ≡ 0 → AcceptedWithZeros text v
  -- The text was spans within the limits whose sum is `v`.
  OlderSum : (spans : List SpelledSpan) → Reads text spans → AllByRecursion OlderFormed spans
      → AllHaveRoom (older_additions spans)
      → older_value spans ≡ v → AcceptedWithZeros text v

-- A text that was accepted while trailing zeros of a fraction counted is still accepted with the
-- same value.
pub record KeepsValueWithZeros (text : List ℕ) : Type 0 where
  pub value : (v : ℕ) → AcceptedWithZeros text v → Accepted text v
  pub answer : (v : ℕ) → AcceptedWithZeros text v → duration_answer text ≡ Ok v
  pub read : ((v : ℕ) × AcceptedWithZeros text v) → IsOk (duration_answer text)
  -- Spans add what they added then, and so their sum is the same.
  pub added : (spans : List SpelledSpan) → older_additions spans ≡ additions spans

-- ==== The laws of timestamps. A text is its list of bytes.

-- A `T` separates the date from the time, and the text ends in `Z` or `+00:00`.
abbrev pub HasTAndZone : List ℕ → Type 0
HasTAndZone bytes = (slice_index bytes 10 ≡ byte "T") × IsTrue (ends_in_zone bytes)

-- The printed texts of two moments with the same number of digits compare, byte by byte, like the
-- moments rounded down to these digits.
abbrev pub PrintInOrder : ℤ → ℤ → Type 0
PrintInOrder a b =
    (k : ℕ) (x y : List ℕ) → IsPrinted a k x → IsPrinted b k y
    → slice_cmp nat_cmp x y ≡ int_cmp (cut a k) (cut b k)

-- The text represents this moment in both formats.
pub record ReadsAs (bytes : List ℕ) (t : ℤ) : Type 0 where
  pub strict : IsStrictMoment bytes t
  pub weak : IsWeakMoment bytes t

-- The text represents fields if and only if no check fails, and then exactly one set of them. The
-- result of parsing is their moment, or the error of the first check that fails.
pub record HasOneTimestamp (checks : List Check) (Represents : Fields → Type 0)
    (answer : Result ℤ TimestampError) : Type 0 where
  pub some : ((f : Fields) × Represents f) ↔ (first_failed checks ≡ None)
  pub only : AtMostOne Represents
  pub value : (t : ℤ) → (answer ≡ Ok t) ↔ ((f : Fields) × Represents f × (t ≡ pos (moment_of f)))
  pub error : (e : TimestampError) → (answer ≡ Err e) ↔ (first_failed checks ≡ Some e)

-- The strict format is the weak format with a `T` and a zone.
pub record StrictIsWeak (text : List ℕ) : Type 0 where
  -- A text represents fields in the strict format if and only if it does so in the weak format and
  -- has a `T` and a zone.
  pub fields : (f : Fields) → IsStrict text f ↔ (IsWeak text f × HasTAndZone text)
  -- The same holds of a moment.
  pub moment : (t : ℤ) → IsStrictMoment text t ↔ (IsWeakMoment text t × HasTAndZone text)
  -- A text that is parsed in the strict format is also parsed in the weak format, and has a `T` and
  -- a zone.
  pub weak : (t : ℤ) → strict_answer text ≡ Ok t → weak_answer text ≡ Ok t
  pub marked : (t : ℤ) → strict_answer text ≡ Ok t → HasTAndZone text
  -- A text that is parsed in the weak format, and has a `T` and a zone, is also parsed in the
  -- strict format.
  pub strict : (t : ℤ) → weak_answer text ≡ Ok t → HasTAndZone text → strict_answer text ≡ Ok t

-- A moment in 1970 to 9999 has exactly one printed text with `k` digits. `Display` writes it, and
-- it parses to the moment rounded down.
pub record MomentPrintsAndReads (t : ℤ) (k : ℕ) : Type 0 where
  pub one : IsPrintable t → ExactlyOne (IsPrinted t k)
  -- `Display` writes this text.
  pub displayed : (text : List ℕ) → (moment_text t k ≡ Some text)
      ↔ (IsPrintable t × IsPrinted t k text)
  -- The text represents the moment, rounded down, in both formats.
  pub reads : (text : List ℕ) → IsPrinted t k text → ReadsAs text (cut t k)
  -- Therefore both parsers return the moment, rounded down.
  pub strict : (text : List ℕ) → IsPrinted t k text → strict_answer text ≡ Ok (cut t k)
  pub weak : (text : List ℕ) → IsPrinted t k text → weak_answer text ≡ Ok (cut t k)
  -- With nine digits nothing is rounded.
  pub whole : cut t 9 ≡ t
