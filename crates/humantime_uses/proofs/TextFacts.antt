-- What texts of durations consist of, at any length: whitespace, digits, letters, points, the words
-- of the units; messages; and laws.
use Rattle.humantime.specs.Characters.{whitespace_chars, is_whitespace, is_digit, is_letter, is_point}
use Rattle.humantime.specs.DurationErrors.{HasFault, Fault, InvalidCharacter, NumberExpected, UnknownUnit, NumberOverflow, Empty, fault_message}
use Rattle.humantime.specs.Durations.{Accepted, Reads, SpelledSpan, WithinLimits, in_nanos, in_seconds, in_seconds_and_nanos, scale_of_word, whole_nanos, words}
use Rattle.humantime.specs.Items.{SpanView}
use Rattle.humantime.specs.Laws.{AreReordered, ExactlyOne, IsTiled, slices_of, without_whitespace, IsOutcome, IsZeroOrSpans, is_gap}
use Rattle.humantime.specs.PrintedDurations.{CanonicalizesTo, IsCanonicalText}
use Rattle.humantime.specs.Timestamps.{timestamp_message}
use Rattle.std.proofs.Common.{◌≡◌, ◌↔◌, ◌⊎◌, ℕ, List, [], ◌∷◌, ◌++◌, Ok, Err, map, filter, refl, chars, codes, bytes_eq, decimal, ◌&&◌, ◌||◌, ◌==◌, nat_le, not, true, option_to_list, IsPermutation}
use Rattle.std.specs.Char.{char_set_contains}
use Rattle.std.specs.List.{AllByRecursion}
use Rattle.std.specs.Map.{lookup}
use Rattle.humantime.specs.declared.date.error.TimestampError.TheVariants.{OutOfRange, InvalidDigit, InvalidFormat}

-- ---- characters

-- A letter is one of ASCII, the micro sign or Greek mu. Only whitespace and points may lie outside
-- the slices of spans.
any_character : (c : ℕ) → (is_digit c ≡ (nat_le 48 c && nat_le c 57))
    × (is_letter c ≡ (((nat_le 65 c && nat_le c 90) || (nat_le 97 c && nat_le c 122)) || (c == 0xb5) || (c == 0x3bc)))
    × (is_point c ≡ (c == 46)) × (is_gap c ≡ (is_whitespace c || is_point c))
unfolding is_digit is_letter is_point
any_character c = (refl, refl, refl, refl)

-- These characters are whitespace, and no others.
any_whitespace : (c : ℕ) → is_whitespace c
    ≡ char_set_contains
    (0x9 ∷ 0xa ∷ 0xb ∷ 0xc ∷ 0xd ∷ 0x20 ∷ 0x85 ∷ 0xa0 ∷ 0x1680 ∷ 0x2000 ∷ 0x2001 ∷ 0x2002 ∷ 0x2003
    ∷ 0x2004 ∷ 0x2005 ∷ 0x2006
    ∷ 0x2007 ∷ 0x2008 ∷ 0x2009 ∷ 0x200a ∷ 0x2028 ∷ 0x2029 ∷ 0x202f ∷ 0x205f ∷ 0x3000 ∷ []) c
unfolding is_whitespace whitespace_chars
any_whitespace c = refl

-- A text without its whitespace keeps its other characters in order.
no_whitespace : (text : List ℕ) → without_whitespace text ≡ filter (λ c. not (is_whitespace c)) text
no_whitespace text = refl

-- ---- the words of the units, each with the number of nanoseconds or of seconds in one of it

abbrev unit : {A : Type 0} → List (List ℕ) → A → List (List ℕ × A)
unit spellings scale = map (λ word. (word, scale)) spellings

-- The words of the units are exactly these.
all_words :
    words
    ≡ unit (codes "nanos" ∷ codes "nsec" ∷ codes "ns" ∷ []) whole_nanos
    ++ unit (codes "usec" ∷ codes "us" ∷ (0xb5 ∷ codes "s") ∷ (0x3bc ∷ codes "s") ∷ []) (in_nanos 1_000)
    ++ unit (codes "millis" ∷ codes "msec" ∷ codes "ms" ∷ []) (in_nanos 1_000_000)
    ++ unit (codes "seconds" ∷ codes "second" ∷ codes "secs" ∷ codes "sec" ∷ codes "s" ∷ []) (in_seconds_and_nanos 1)
    ++ unit (codes "minutes" ∷ codes "minute" ∷ codes "min" ∷ codes "mins" ∷ codes "m" ∷ []) (in_seconds_and_nanos 60)
    ++ unit (codes "hours" ∷ codes "hour" ∷ codes "hr" ∷ codes "hrs" ∷ codes "h" ∷ []) (in_seconds 3_600)
    ++ unit (codes "days" ∷ codes "day" ∷ codes "d" ∷ []) (in_seconds 86_400)
    ++ unit (codes "weeks" ∷ codes "week" ∷ codes "wk" ∷ codes "wks" ∷ codes "w" ∷ []) (in_seconds 604_800)
    ++ unit (codes "months" ∷ codes "month" ∷ codes "M" ∷ []) (in_seconds 2_630_016)
    ++ unit (codes "years" ∷ codes "year" ∷ codes "yr" ∷ codes "yrs" ∷ codes "y" ∷ []) (in_seconds 31_557_600)
all_words = refl

-- Any word has the scale that these say, whatever span it ends.
any_word : (word : List ℕ) → scale_of_word word ≡ lookup (bytes_eq word) words
unfolding scale_of_word
any_word word = refl

-- Spans may be in any other order.
any_order : (text other : List ℕ) (spans others : List SpelledSpan) → Reads text spans
    → Reads other others → IsPermutation spans others
    → AreReordered text other
any_order text other spans others reads other_reads moved =
    record { spans = spans; others = others; reads = reads; other_reads = other_reads; moved = moved }

-- ---- what the laws say

any_law : {A : Type 0} (IsSo : A → Type 0) (text : List ℕ) (v : ℕ) (e : Fault)
    → (ExactlyOne IsSo → (x : A) × IsSo x × ((other : A) → IsSo other → other ≡ x))
    × (IsOutcome text (Ok v) → Accepted text v) × (IsOutcome text (Err e) → HasFault text e)
    × (IsZeroOrSpans text
    → ((v : ℕ) × Accepted text v)
    ↔ ((text ≡ codes "0") ⊎ ((spans : List SpelledSpan) × Reads text spans × WithinLimits spans)))
any_law IsSo text v e = (λ h. h, λ h. h, λ h. h, λ h. h)

any_canonical : (text printed : List ℕ) → CanonicalizesTo text printed
    ↔ ((d : ℕ) × Accepted (chars text) d × IsCanonicalText d printed)
any_canonical text printed = (
  λ c.
      (c.duration, c.accepted, c.canon),
  λ h. record { duration = h.0; accepted = h.1; canon = h.2 },
)

-- The slices of items follow each other, and only gaps are around them.
any_tiles : (text slice : List ℕ) (slices : List (List ℕ)) (x : SpanView) (e : Fault)
    → (IsTiled text [] → AllByRecursion (λ c. is_gap c ≡ true) text)
    × (IsTiled text (slice ∷ slices)
    → (gap : List ℕ) × (after : List ℕ) × (text ≡ gap ++ (slice ++ after)) × IsTiled gap []
    × IsTiled after slices)
    × (slices_of (Ok x) ≡ x.number ∷ option_to_list x.fraction ++ x.unit ∷ [])
    × (slices_of (Err e) ≡ [])
any_tiles text slice slices x e = (λ h. h, λ h. h, refl, refl)

-- ---- messages

-- The unit is missing if it is empty, and otherwise it is repeated, whatever its length. The
-- message has the micro sign.
any_message : (at start end value b : ℕ) (bs : List ℕ)
    → (map fault_message (InvalidCharacter at ∷ NumberExpected at ∷ NumberOverflow ∷ Empty
    ∷ UnknownUnit start end [] value ∷ UnknownUnit start end (b ∷ bs) value ∷ [])
    ≡ (codes "invalid character at " ++ decimal at) ∷ (codes "expected number at " ++ decimal at)
    ∷ codes "number is too large or cannot be represented without a lack of precision (values below 1ns are not supported)"
    ∷ codes "value was empty" ∷ (codes "time unit needed, for example " ++ decimal value
    ++ codes "sec or " ++ decimal value ++ codes "ms")
    ∷ (codes "unknown time unit \"" ++ (b ∷ bs)
    ++ (codes "\", supported units: ns, us/" ++ 0xc2 ∷ 0xb5
    ∷ codes "s, ms, sec, min, hours, days, weeks, months, years (and few variations)"))
    ∷ [])
    × (map timestamp_message (OutOfRange ∷ InvalidDigit ∷ InvalidFormat ∷ [])
    ≡ codes "numeric component is out of range" ∷ codes "bad character where digit is expected"
    ∷ codes "timestamp format is invalid" ∷ [])
any_message at start end value b bs = (refl, refl)
