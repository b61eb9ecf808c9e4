-- The counts of a duration by unit, and the texts that they print as.
use Rattle.humantime.specs.Characters.{begins, decimal_value, is_digit, in_number, digits, is_letter, u64_max}
use Rattle.humantime.specs.DurationResults.{divided, duration_text}
use Rattle.humantime.specs.Durations.{HasOnly, SpelledSpan, Quantity, Nanos, Seconds, Scale, scale_of_word, quantity_nanos, size, is_some_and}
use Rattle.humantime.specs.PrintedDurations.{Suffix, weights, suffixes, printed_count, printed_counts, joined_or_zero, weighted_sum, AreCounts, IsCanonicalText}
use Rattle.humantime.specs.PrivateFunctions.{joined_after}
use Rattle.humantime.specs.Values.{duration_end, nanos_per_micro, nanos_per_milli, nanos_per_second, seconds_per_minute, seconds_per_hour, seconds_per_day, seconds_per_month, seconds_per_year}
use Rattle.std.proofs.Common.{ℕ, ◌<◌, ◌≤◌, length, arith, ◌≡◌, ◌/◌, ◌%◌, List, [], ◌∷◌, refl, ap, ◌∙◌, rules, ◌++◌, ◌^◌, true, nat_cmp, IsTrue, ◌*◌, Bool, cond, ◌+◌, append_assoc, length-append, is_le, take, sym, subst, decimal, ◌==◌, if◌then◌else◌, codes, ◌&&◌, Some, None, nat_lt, nat_le, map, slice_index, mul_comm, zip, filter}
use Rattle.std.proofs.Math.Nat.{div-add-mod}
use Rattle.std.proofs.lemmas.Bool.{cases_lt}
use Rattle.std.proofs.lemmas.Bool.Decides.{nat_tests}
use Rattle.std.proofs.lemmas.Cmp.{nat_list_cmp_total}
use Rattle.std.proofs.lemmas.Fmt.{length-decimal-le, decimal_is_IsNumeral}
use Rattle.std.proofs.lemmas.Grind.{common_steps}
use Rattle.std.proofs.lemmas.Nat.{le-div, mod_below, div_below}
use Rattle.std.proofs.lemmas.Slice.{take-put_mid}
use Rattle.std.proofs.lemmas.Str.{IsUtf8-append, IsUtf8-from_is_utf8}
use Rattle.std.specs.Cmp.Lexicographic.{slice_cmp}
use Rattle.std.specs.List.{AllByRecursion, list_all, join_with_byte}
use Rattle.std.specs.Prelude.{⊤}
use Rattle.std.specs.Str.Parse.{AllDigits}
use Rattle.std.proofs.lemmas.Str.Parse.{digit_from_value}
use Rattle.std.proofs.lemmas.Map.Lookups.{exact_bytes}
use Rattle.std.specs.Cmp.{nat_cmp_is}
use Rattle.std.specs.Str.{IsUtf8, is_utf8, chars}
use borrow.Rule.Slice.PartMut.{put_mid}
use lib.Utf8.{encode}
use Rattle.humantime.proofs.Characters.{all_pass, digit_in_number}

-- ==== The digits of a number in decimal, and how many they are.

pub decimal_short : (n : ℕ) → (n < 100 → length (decimal n) ≤ 2)
    × (n < 1000 → length (decimal n) ≤ 3) × (n < 1000000000000 → length (decimal n) ≤ 12)
decimal_short n =
    grind (arith, (length-decimal-le 2 n), (length-decimal-le 3 n), (length-decimal-le 12 n))

-- ==== The text that is written count by count is the text of the counts.

-- A text that is written after another one in a buffer.
pub written_after : (a k n : ℕ) (bytes text : List ℕ) → IsUtf8 (take a bytes) → IsUtf8 text
    → a ≤ length bytes → n ≡ a + length text
    → IsUtf8 (take n (put_mid a k bytes text))
written_after a k n bytes text u v fits size =
    subst IsUtf8 (sym (take-put_mid a k bytes text n size fits)) (IsUtf8-append _ _ u v)

-- Counts that are written after a text, one by one.
abbrev pub with_counts : List ℕ → List ℕ → List Suffix → List ℕ
with_counts text (n ∷ ns) (s ∷ ss) =
    with_counts (joined_after text (printed_counts (n ∷ []) (s ∷ []))) ns ss
with_counts text _ _ = text

joined_more : (t p : List ℕ) (ps : List (List ℕ)) → 0 < length p
    → joined_after (joined_after t (p ∷ [])) ps ≡ joined_after t (p ∷ ps)
joined_more t p ps h = grind (arith, append_assoc)

-- Counts that are written one by one are joined, if each suffix has a letter.
one_by_one : (t ns : List ℕ) (ss : List Suffix) → AllByRecursion (λ s. 0 < length s.unit) ss
    → with_counts t ns ss ≡ joined_after t (printed_counts ns ss)
one_by_one t (n ∷ ns) (s ∷ ss) h =
    grind (
      arith,
      joined_more,
      length-append,
      (one_by_one (joined_after t (printed_count n s ∷ [])) ns ss h.1),
      (one_by_one t ns ss h.1),
    )
one_by_one t _ _ h = grind arith

-- `0s` is written if there is no text.
abbrev pub or_zero : List ℕ → List ℕ
or_zero text = if length text == 0 then codes "0s" else text

or_zero_joined : (ns : List ℕ) (ss : List Suffix) → AllByRecursion (λ s. 0 < length s.unit) ss
    → or_zero (joined_after [] (printed_counts ns ss)) ≡ joined_or_zero (printed_counts ns ss)
or_zero_joined (n ∷ ns) (s ∷ ss) h =
    grind (arith, common_steps, nat_tests, length-append, (or_zero_joined ns ss h.1))
or_zero_joined _ _ h = refl

-- The counts of the units one after the other, each of what the unit before leaves, and last what
-- remains.
abbrev in_turn : List ℕ → ℕ → List ℕ
in_turn [] n = n ∷ []
in_turn (u ∷ us) n = n / u ∷ in_turn us (n % u)

-- The nine counts of `s` seconds and `n` nanoseconds.
abbrev counts_of : ℕ → ℕ → List ℕ
counts_of s n =
    in_turn (seconds_per_year ∷ seconds_per_month ∷ seconds_per_day ∷ seconds_per_hour
    ∷ seconds_per_minute ∷ []) s ++ in_turn (nanos_per_milli ∷ nanos_per_micro ∷ []) n

pub written_is_text : (d : ℕ)
    → or_zero (with_counts [] (counts_of (d / nanos_per_second) (d % nanos_per_second)) suffixes)
    ≡ duration_text d
unfolding duration_text
written_is_text d =
    let counts : counts_of (d / nanos_per_second) (d % nanos_per_second) ≡ divided weights d =
    grind arith in
    ap or_zero (ap (λ ns. with_counts [] ns suffixes) counts ∙ one_by_one [] (divided weights d)
    suffixes (search rules))
    ∙ or_zero_joined (divided weights d) suffixes (search rules)

-- ==== The digits of a printed count, as a number in a text.

all_digits : (ds : List ℕ) → AllDigits 10 ds → HasOnly in_number ds × (digits ds ≡ ds)
unfolding is_digit
all_digits [] h = (h, refl)
all_digits (c ∷ cs) h =
    grind (arith, nat_tests, digit_in_number, digit_from_value, (all_digits cs h.1))

pub decimal_number : (n : ℕ) → n < 2 ^ 64
    → (begins is_digit (decimal n) ≡ true) × HasOnly in_number (decimal n)
    × (digits (decimal n) ≡ decimal n) × (decimal_value (decimal n) ≡ n)
unfolding is_digit
decimal_number n h = grind (arith, nat_tests, (decimal_is_IsNumeral n h), all_digits)

-- ==== The counts that division computes are the greatest, and only these.

-- Each weight is positive, and the last one is 1; the remainder is less than `m`.
abbrev Reaches : List ℕ → ℕ → Type 0
Reaches [] m = m ≡ 1
Reaches (w ∷ ws) m = (0 < w) × Reaches ws w

divided_sum : (ws : List ℕ) (m d : ℕ) → Reaches ws m → d < m → weighted_sum ws (divided ws d) ≡ d
divided_sum [] m d r h = omega arith
divided_sum (w ∷ ws) m d r h = grind (arith, (divided_sum ws w (d % w) r.1 (mod_below d w r.0)))

divided_last : (ws : List ℕ) (m d : ℕ) → Reaches ws m → (others : List ℕ)
    → length others ≡ length ws → weighted_sum ws others ≡ d
    → IsTrue (is_le (slice_cmp nat_cmp others (divided ws d)))
divided_last [] m d r [] l e = refl
divided_last (w ∷ ws) m d r (c ∷ cs) l e =
    grind (arith, nat_cmp_is, le-div, mul_comm, div-add-mod, (cases_lt c (d / w)), (divided_last ws w (d % w) r.1 cs))
divided_last _ m d r _ l e = absurd (omega (arith, l))

divided_greatest : (d : ℕ) → AreCounts d (divided weights d)
divided_greatest d = grind (arith, common_steps, divided_sum, divided_last)

-- No other counts are the greatest.
pub counts_divided : (d : ℕ) (counts : List ℕ) → AreCounts d counts → counts ≡ divided weights d
counts_divided d counts g =
    let other = divided_greatest d in
    let least =
    rw (nat_list_cmp_total.antisymm (divided weights d) counts) at
    (g.greatest (divided weights d) other.as_many other.sum) in
    grind (arith, nat_tests, exact_bytes, (other.greatest counts g.as_many g.sum), least)

-- The text of the counts that division computes is the only canonical text.
pub printed_is_canon : (d : ℕ) → IsCanonicalText d (duration_text d)
unfolding duration_text
printed_is_canon d = record { counts = divided weights d; are = divided_greatest d; shown = refl }

pub canon_is_text : (d : ℕ) (text : List ℕ) → IsCanonicalText d text → text ≡ duration_text d
unfolding duration_text
canon_is_text d text canon = grind (arith, counts_divided)

-- ==== The rows of printed counts: what the word of each unit denotes.

-- The byte between two counts.
abbrev pub space : ℕ
space = 32

-- The word after a count of `n`, and the span of that count.
abbrev pub word_for : ℕ → Suffix → List ℕ
word_for n s = s.unit ++ cond (s.has_plural && nat_lt 1 n) (codes "s") []

abbrev pub span_for : ℕ → Suffix → SpelledSpan
span_for n s = record { number = decimal n; fraction = None; word = chars (word_for n s) }

-- The addition is one of seconds, or of nanoseconds if the remainder is at most a second.
abbrev pub is_of_kind : ℕ → Quantity → Bool
is_of_kind m (Nanos n) = nat_le m nanos_per_second
is_of_kind m (Seconds n) = true

-- The word is letters, and denotes such a unit, which has `w` nanoseconds.
abbrev pub IsPrintedWord : ℕ → ℕ → List ℕ → Type 0
IsPrintedWord w m word =
    (unit : Scale) × (scale_of_word (chars word) ≡ Some unit) × (quantity_nanos unit.one ≡ w)
    × (0 < size unit.one) × (is_of_kind m unit.one ≡ true)
    × IsUtf8 word × HasOnly is_letter (chars word) × (begins is_letter (chars word) ≡ true)

abbrev is_word : ℕ → ℕ → List ℕ → Bool
is_word w m word =
    is_utf8 word && list_all is_letter (chars word) && begins is_letter (chars word)
    && is_some_and (λ u. (quantity_nanos u.one == w) && nat_lt 0 (size u.one)
    && is_of_kind m u.one) (scale_of_word (chars word))

pub is_word-true : (w m : ℕ) (word : List ℕ) → is_word w m word ≡ true → IsPrintedWord w m word
is_word-true w m word h = grind (arith, nat_tests, IsUtf8-from_is_utf8, all_pass)

-- The units, each as its weight and suffix.
abbrev pub sized_units : List (ℕ × Suffix)
sized_units = zip weights suffixes

-- The counts of `d` that division computes, each with its suffix.
abbrev pub counts_of_units : List (ℕ × Suffix) → ℕ → List (ℕ × Suffix)
counts_of_units [] d = []
counts_of_units (u ∷ us) d = (d / u.0, u.1) ∷ counts_of_units us (d % u.0)

-- Each suffix has words of its weight, if the remainder is less than `m`.
abbrev pub is_table : List (ℕ × Suffix) → ℕ → Bool
is_table [] m = m == 1
is_table (u ∷ us) m =
    is_word u.0 m (word_for 1 u.1) && is_word u.0 m (word_for 2 u.1) && is_table us u.0

pub table : is_table sized_units duration_end ≡ true
unfolding is_letter scale_of_word is_utf8 chars encode
table = refl

-- ==== Bounds for the length of a printed text and for its counts.

-- A bound for the number of digits of each count, if the remainder is less than `m`.
abbrev Sizes : List (ℕ × Suffix) → List ℕ → ℕ → Type 0
Sizes [] [] m = ⊤
Sizes (u ∷ us) (k ∷ ks) m =
    (0 < k) × (10 ^ k < 2 ^ 64) × (0 < u.0) × (m ≤ 10 ^ k * u.0) × Sizes us ks u.0
Sizes _ _ m = ⊥

-- The greatest length of this number of digits, the suffixes and a space after each.
abbrev length_for : List (ℕ × Suffix) → List ℕ → ℕ
length_for (u ∷ us) (k ∷ ks) =
    k + (length u.1.unit + cond u.1.has_plural 1 0) + 1 + length_for us ks
length_for _ _ = 0

-- The length with a space after each text.
abbrev spaced_length : List (List ℕ) → ℕ
spaced_length [] = 0
spaced_length (p ∷ ps) = length p + 1 + spaced_length ps

join_length : (p : List ℕ) (ps : List (List ℕ))
    → length (join_with_byte space (p ∷ ps)) + 1 ≡ spaced_length (p ∷ ps)
join_length p [] = omega arith
join_length p (q ∷ ps) = omega (arith, length-append {A = ℕ}, join_length q ps)

counts_length : (us : List (ℕ × Suffix)) (ks : List ℕ) (m r : ℕ) → Sizes us ks m → r < m
    → spaced_length (map (λ c. printed_count c.0 c.1)
    (filter (λ c. nat_lt 0 c.0) (counts_of_units us r))) ≤ length_for us ks
counts_length (u ∷ us) (k ∷ ks) m r h below =
    grind (
      arith,
      (div_below r u.0 (10 ^ k)),
      length-append,
      (length-decimal-le k (r / u.0)),
      mod_below,
      (counts_length us ks u.0 (r % u.0) h.4),
    )
counts_length _ _ m r h below = grind arith

joined_length : (ps : List (List ℕ)) → spaced_length ps ≤ 65 → length (joined_or_zero ps) ≤ 64
joined_length ps h = grind (arith, join_length)

pub canon_length : (d : ℕ) → d / nanos_per_second ≤ u64_max → (text : List ℕ)
    → IsCanonicalText d text → length text ≤ 64
unfolding duration_text
canon_length d h text canon =
    grind (
      arith,
      (counts_length sized_units (12 ∷ 2 ∷ 2 ∷ 2 ∷ 2 ∷ 2 ∷ 3 ∷ 3 ∷ 3 ∷ []) duration_end
          d (grind arith)),
      (canon_is_text d text
          canon),
      (joined_length (printed_counts (divided weights d) suffixes)),
    )

pub counts_small : (d : ℕ) (counts : List ℕ) → AreCounts d counts
    → (slice_index counts 1 ≤ 11) × (slice_index counts 2 ≤ 30)
counts_small d counts greatest = rw (counts_divided d counts greatest) (omega arith, omega arith)
