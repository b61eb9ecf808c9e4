-- The limits of any number, any fraction and any sum, what any span adds, both also as while
-- trailing zeros of a fraction counted, and how any count is printed: each rule written out, so
-- that it holds at every value.
use Rattle.humantime.specs.Characters.{decimal_value, without_trailing_zeros}
use Rattle.humantime.specs.DurationResults.{divided, duration_text}
use Rattle.humantime.specs.Durations.{in_nanos, in_seconds, in_seconds_and_nanos, scale_of_word, whole_nanos, SpelledSpan, Reads, Accepted, AllHaveRoom, BareZero, SumOf, Formed, WithinLimits, additions, additions_of, fits, fraction_additions, fraction_fits, has_room, has_too_many_digits, with_size, quantity_nanos, size, times, digits_overflow, total, value}
use Rattle.humantime.specs.Laws.{OlderFormed, OlderFraction, older_additions, older_additions_of, older_fraction_additions, older_value, AcceptedWithZeros, OlderZero, OlderSum}
use Rattle.humantime.specs.PrintedDurations.{Suffix, with_plural, without_plural, printed_count, printed_counts, joined_or_zero, suffixes, weights}
use Rattle.std.proofs.Common.{◌≡◌, ◌∙◌, ◌↔◌, ℕ, ◌+◌, ◌*◌, ◌/◌, ◌%◌, ◌^◌, ◌≤◌, List, [], ◌∷◌, ◌++◌, Some, None, length, refl, sym, ap, arith, codes, decimal, Bool, true, false, ◌&&◌, ◌||◌, ◌==◌, nat_le, nat_lt, if◌then◌else◌, option_map, sum_by, unwrap_or, IsSome, Option, zip}
use Rattle.std.proofs.lemmas.Bool.Decides.{nat_tests}
use Rattle.std.specs.List.{AllByRecursion}
use Rattle.std.specs.Str.{byte}
use Rattle.humantime.specs.declared.unit.Scale.{Scale}
use Rattle.humantime.proofs.Characters.{significant_last, significant_zero}

abbrev greatest : ℕ
greatest = 18446744073709551615

abbrev small : ℕ → Bool
small n = nat_le n greatest

-- ---- units

-- A unit adds seconds or nanoseconds, and so do its fractions, if it has any: how many of them, and
-- how many nanoseconds these are.
abbrev amounts : Scale → (ℕ × ℕ) × Option (ℕ × ℕ)
amounts unit = (
  (size unit.one, quantity_nanos unit.one),
  option_map (λ x. (size x, quantity_nanos x)) unit.for_fractions,
)

any_unit : (m n : ℕ) → let nanos = n * 1_000_000_000 in
    (amounts whole_nanos ≡ ((1, 1), None)) × (amounts (in_nanos n) ≡ ((n, n), Some (n, n)))
    × (amounts (in_seconds_and_nanos n) ≡ ((n, nanos), Some (nanos, nanos)))
    × (amounts (in_seconds n) ≡ ((n, nanos), Some (n, nanos)))
    × (with_size (in_nanos m).one n ≡ (in_nanos n).one)
    × (with_size (in_seconds m).one n ≡ (in_seconds n).one)
any_unit m n = (refl, refl, refl, refl, refl, refl)

-- ---- digits

trailing_zeros : (ds : List ℕ) (d : ℕ) → (without_trailing_zeros [] ≡ [])
    × (without_trailing_zeros (ds ++ codes "0") ≡ without_trailing_zeros ds)
    × ((d == byte "0") ≡ false → without_trailing_zeros (ds ++ d ∷ []) ≡ ds ++ d ∷ [])
unfolding without_trailing_zeros
trailing_zeros ds d = (refl, significant_zero ds, significant_last ds d)

-- A number has to fit 64 bits, and a fraction may have nineteen digits without its trailing zeros.
any_length : (s : SpelledSpan) (fs : List ℕ)
    → (digits_overflow s
    ≡ (nat_lt greatest (decimal_value s.number) || has_too_many_digits s.fraction))
    × (has_too_many_digits None ≡ false)
    × (has_too_many_digits (Some fs) ≡ nat_lt 19 (length (without_trailing_zeros fs)))
any_length s fs = (refl, refl, refl)

-- ---- limits of a span of any unit, and what it adds

-- The number times the size of the unit has to fit 64 bits, and the fraction has to fit. Both are
-- added.
any_number : (s : SpelledSpan) (unit : _) → scale_of_word s.word ≡ Some unit → let n =
    decimal_value s.number * size unit.one in
    (fits s ≡ (small n && fraction_fits unit.for_fractions s.fraction))
    × (additions_of s ≡ with_size unit.one n ∷ fraction_additions unit.for_fractions s.fraction)
any_number s unit is = (rw is refl, rw is refl)

-- Without its trailing zeros, a fraction denotes a whole number of what it is a part of, and its
-- product with this fits 64 bits. Of a fraction of nanoseconds nothing is left, and it adds
-- nothing.
any_fraction : (part : _) (fs : List ℕ) → let ds =
    without_trailing_zeros fs in let n = decimal_value ds * size part in
    (fraction_fits (Some part) (Some fs) ≡ (small n && (n % 10 ^ length ds == 0)))
    × (fraction_fits None (Some fs) ≡ (length ds == 0)) × (fraction_fits (Some part) None ≡ true)
    × (fraction_fits None None ≡ true)
    × (fraction_additions (Some part) (Some fs) ≡ with_size part (n / 10 ^ length ds) ∷ [])
    × (fraction_additions (Some part) None ≡ []) × (fraction_additions None (Some fs) ≡ [])
    × (fraction_additions None None ≡ [])
any_fraction part fs = (refl, refl, refl, refl, refl, refl, refl, refl)

-- ---- limits of a sum

-- The seconds of the new sum have to fit 64 bits, and added nanoseconds have to do so together with
-- those below a second.
room : (t n : ℕ) → (has_room t (in_seconds n).one ≡ small (t / 1_000_000_000 + n))
    × (has_room t (in_nanos n).one ≡ (small (t % 1_000_000_000 + n) && small ((t + n) / 1_000_000_000)))
room t n = (refl, refl)

-- These are the limits of any spans, however many there are.
formed : (s : SpelledSpan) → Formed s
    ↔ ((digits_overflow s ≡ false) × IsSome (scale_of_word s.word))
formed s = (λ f. (f.digits_fit, f.word), λ h. record { digits_fit = h.0; word = h.1 })

any_room : (xs : List _) → AllHaveRoom xs ↔ ((before after : List _) (x : _)
    → xs ≡ before ++ x ∷ after → has_room (total before) x ≡ true)
any_room xs = (λ h. h, λ h. h)

any_limits : (spans : List SpelledSpan) → WithinLimits spans
    ↔ (AllByRecursion Formed spans × AllByRecursion (λ s. fits s ≡ true) spans × AllHaveRoom (additions spans))
any_limits spans =
    (λ w. (w.formed, w.fit, w.room), λ h. record { formed = h.0; fit = h.1; room = h.2 })

any_spans : (text : List ℕ) (s : SpelledSpan) (spans : List SpelledSpan)
    → (additions (s ∷ spans) ≡ additions_of s ++ additions spans)
    × (value spans ≡ sum_by quantity_nanos (additions spans))
    × (Reads text spans → WithinLimits spans → Accepted text (value spans))
    × Accepted (codes "0") 0 × AcceptedWithZeros (codes "0") 0
any_spans text s spans = (
  refl,
  refl,
  λ reads within. SumOf spans reads within refl,
  BareZero refl refl,
  OlderZero refl refl,
)

-- ---- while trailing zeros of a fraction counted

-- A span had a number which, like its product with the unit, did not exceed a `u64`, and its
-- fraction was within its limits.
older_span : (s : SpelledSpan) (unit : _) → scale_of_word s.word ≡ Some unit
    → OlderFormed s
    ↔ ((decimal_value s.number ≤ greatest) × (decimal_value s.number * size unit.one ≤ greatest)
    × OlderFraction unit.for_fractions s.fraction)
older_span s unit is = (
  λ h.
      let same : h.unit ≡ unit = ap (λ u. unwrap_or u unit) (sym h.word ∙ is) in
      rw (← same) (h.number, h.product, h.fraction),
  λ h. record { unit = unit; word = is; number = h.0; product = h.1; fraction = h.2 },
)

-- A fraction had at most 19 digits, zeros counted. Their product with what they are parts of did
-- not exceed a `u64`, and was a multiple of their power of ten. Nanoseconds had no fraction.
older_fraction : (part : _) (ds : List ℕ) → (OlderFraction (Some part) (Some ds)
    ↔ ((length ds ≤ 19) × (decimal_value ds * size part ≤ greatest)
    × (decimal_value ds * size part % 10 ^ length ds ≡ 0)))
    × OlderFraction (Some part) None × OlderFraction None None × ¬ (OlderFraction None (Some ds))
older_fraction part ds = (
  (
    λ h. (h.0, grind (arith, nat_tests, (h.1)), grind (arith, nat_tests, (h.1))),
    λ h. (h.0, grind (arith, nat_tests, (h.1), (h.2))),
  ),
  tt,
  tt,
  λ h. h,
)

-- Spans were accepted if there was room for each addition.
older_spans : (text : List ℕ) (spans : List SpelledSpan) → Reads text spans
    → AllByRecursion OlderFormed spans → AllHaveRoom (older_additions spans)
    → AcceptedWithZeros text (older_value spans)
older_spans text spans reads formed room = OlderSum spans reads formed room refl

-- A span added its number and then its fraction, with all digits of both.
older_addition : (s : SpelledSpan) (unit part : _) (ds : List ℕ) → (scale_of_word s.word ≡ Some unit
    → older_additions_of s
    ≡ times (decimal_value s.number) unit.one
    ∷ older_fraction_additions unit.for_fractions s.fraction)
    × (older_fraction_additions (Some part) (Some ds)
    ≡ with_size part (decimal_value ds * size part / 10 ^ length ds) ∷ [])
older_addition s unit part ds = (λ is. rw is refl, refl)

-- ---- printing

-- A count above 1 has the `s` of the plural if its unit has one, and no other count has it.
plural : (n : ℕ) (unit : List ℕ)
    → (printed_count n (with_plural unit)
    ≡ decimal n ++ unit ++ (if nat_lt 1 n then codes "s" else []))
    × (printed_count n (without_plural unit) ≡ decimal n ++ unit ++ [])
plural n unit = (refl, refl)

-- A text has the counts that are not zero, joined with single spaces.
any_count : (c : ℕ) (x : Suffix) (counts : List ℕ) (ends : List Suffix) (a b : List ℕ) (others : List (List ℕ))
    → (printed_counts (0 ∷ counts) (x ∷ ends) ≡ printed_counts counts ends)
    × (nat_lt 0 c ≡ true → printed_counts (c ∷ counts) (x ∷ ends) ≡ printed_count c x ∷ printed_counts counts ends)
    × (joined_or_zero [] ≡ codes "0s") × (joined_or_zero (a ∷ []) ≡ a)
    × (joined_or_zero (a ∷ b ∷ others) ≡ a ++ byte " " ∷ joined_or_zero (b ∷ others))
any_count c x counts ends a b others = (refl, λ some. rw some refl, refl, refl, refl)

-- The counts come by division, from years to nanoseconds.
any_text : (w d : ℕ) (ws : List ℕ) → (divided (w ∷ ws) d ≡ d / w ∷ divided ws (d % w))
    × (duration_text d ≡ joined_or_zero (printed_counts (divided weights d) suffixes))
unfolding duration_text
any_text w d ws = (refl, refl)

nine_units :
    zip weights suffixes
    ≡ (31_557_600_000_000_000, with_plural (codes "year"))
    ∷ (2_630_016_000_000_000, with_plural (codes "month"))
    ∷ (86_400_000_000_000, with_plural (codes "day"))
    ∷ (3_600_000_000_000, without_plural (codes "h"))
    ∷ (60_000_000_000, without_plural (codes "m"))
    ∷ (1_000_000_000, without_plural (codes "s"))
    ∷ (1_000_000, without_plural (codes "ms"))
    ∷ (1_000, without_plural (0xc2 ∷ 0xb5 ∷ codes "s"))
    ∷ (1, without_plural (codes "ns")) ∷ []
nine_units = refl
