-- The bytes of an error: numbers of two digits, what fits the layout, and that their range lies in
-- the text, between characters.
use Rattle.std.proofs.Common.{◌≡◌, ℕ, zero, suc, ◌+◌, ◌-◌, ◌*◌, ◌<◌, ◌≤◌, List, ◌∷◌, length, get_or, drop, arith, rules, Bool, true, zip, IsUtf8, IsCharBoundary, get_or-drop, length-drop}
use Rattle.std.proofs.lemmas.Bool.{and_parts}
use Rattle.std.proofs.lemmas.Bool.Decides.{nat_tests}
use Rattle.std.proofs.lemmas.Grind.{common_steps}
use Rattle.std.proofs.lemmas.List.{get_or_past}
use Rattle.std.proofs.lemmas.List.Sums.{prefix_len-le-length, prefix_len_is, prefix_len_passes}
use Rattle.std.proofs.lemmas.Str.{IsCharBoundary-start, IsCharBoundary-end, IsCharBoundary-after_ascii}
use Rattle.std.specs.Char.{is_ascii_digit}
use Rattle.std.specs.Int.{is_in_range}
use Rattle.std.specs.List.{AllByRecursion, prefix_len}
use Rattle.std.specs.Prelude.{⊤}
use Rattle.std.proofs.lemmas.Slice.Zip.{length-zip}
use Rattle.humantime.specs.Timestamps.{has_digits, has_two_digits, number_between}
use Rattle.humantime.proofs.TimestampParts.{has_two_from_test, number_of_two, number_of_four}
use Rattle.humantime_std.specs.Located.{IsRangeIn, char_end, fit_len, fits, fraction_end, layout, timestamp_len, wrong_field, zone_len}

-- ---- Numbers

-- The year is that of two pairs.
pub year_of_pairs : (b : List ℕ) → 19 ≤ length b → has_two_digits b 0 ≡ true
    → has_two_digits b 2 ≡ true
    → number_between b 0 4 ≡ number_between b 0 2 * 100 + number_between b 2 4
year_of_pairs b long century decade =
    omega (
      arith,
      number_of_four b (omega (arith, long)) century decade,
      number_of_two b 0
          (omega (arith, long)) century,
      number_of_two b 2 (omega (arith, long)) decade,
    )

-- A number of two digits, and those of the fields, with the definitions that these open.
pub ruleset pairs = (has_two_from_test, number_of_two)

pub ruleset fields = (common_steps, and_parts, year_of_pairs)

unfoldable pub fields_open : ⊤
unfolding wrong_field has_digits
fields_open = tt

-- ---- What fits the layout

-- A byte that fits its place, and so is ASCII.
fitting : (strict : Bool) (places b : List ℕ) (k : ℕ) → AllByRecursion (λ p. p < 128) places
    → k < prefix_len (λ p. fits strict p.0 p.1) (zip places b)
    → (fits strict (get_or places k 0) (get_or b k 0) ≡ true) × (get_or b k 0 < 128)
fitting strict (p ∷ ps) (c ∷ cs) zero ascii few = grind (arith, nat_tests)
fitting strict (p ∷ ps) (c ∷ cs) (suc k) ascii few = grind (arith, (fitting strict ps cs k ascii.1))
fitting strict places b k ascii few = absurd (grind arith)

fitting_digits : (strict : Bool) (b : List ℕ) → fit_len strict b ≡ 19 → has_digits b ≡ true
unfolding fit_len has_digits has_two_digits
fitting_digits strict b all =
    let digit = λ (k : ℕ) (few : k < 19). (fitting strict layout b k (search rules) (omega (arith, all))).0 in
    grind (
      arith,
      (digit 0),
      (digit 1),
      (digit 2),
      (digit 3),
      (digit 5),
      (digit 6),
      (digit 8),
      (digit 9),
      (digit 11),
      (digit 12),
      (digit 14),
      (digit 15),
      (digit 17),
      (digit 18),
    )

-- ---- Ranges

-- The start and the end of a text are boundaries.
pub ruleset ends = (IsCharBoundary-start, IsCharBoundary-end)

-- A place with an ASCII byte before it is a boundary.
after_ascii : (b : List ℕ) (k : ℕ) → IsUtf8 b → k ≤ length b → (0 < k → get_or b (k - 1) 0 < 128)
    → IsCharBoundary b k
after_ascii b k utf8 inside ascii =
    grind (arith, (IsCharBoundary-start b utf8), (IsCharBoundary-after_ascii b (k - 1) utf8))

-- What fits the layout is ASCII, and within the text and the layout.
pub fit_inside : (strict : Bool) (b : List ℕ) → IsUtf8 b
    → (fit_len strict b ≤ 19) × (fit_len strict b ≤ length b)
    × ((k : ℕ) → k < fit_len strict b → get_or b k 0 < 128)
    × ((k : ℕ) → k ≤ fit_len strict b → IsCharBoundary b k)
    × (fit_len strict b ≡ 19 → has_digits b ≡ true)
unfolding fit_len
fit_inside strict b utf8 =
    let within = prefix_len-le-length (λ (p : ℕ × ℕ). fits strict p.0 p.1) (zip layout b) in
    let size = length-zip layout b in
    let ascii =
    λ (k : ℕ) (few : k < fit_len strict b). (fitting strict layout b k (search rules) few).1 in (
      omega arith,
      omega arith,
      ascii,
      λ k few. after_ascii b k utf8 (omega arith)
          (λ some. ascii (k - 1) (omega arith)),
      fitting_digits strict b,
    )

-- The seconds, or the fraction, end with an ASCII byte.
fraction_ascii : (b : List ℕ) → 19 ≤ length b → get_or b 18 0 < 128
    → (19 ≤ fraction_end b) × (fraction_end b ≤ length b) × (get_or b (fraction_end b - 1) 0 < 128)
unfolding fraction_end
fraction_ascii b long seconds =
    let n : ℕ = prefix_len is_ascii_digit (drop 20 b) in
    let few = prefix_len-le-length is_ascii_digit (drop 20 b) in
    let digit = prefix_len_passes is_ascii_digit (drop 20 b) (n - 1) 0 in
    grind (arith, nat_tests, (few), (digit), (length-drop 20 b), (get_or-drop 20 b (n - 1) 0), (get_or_past b 19 0))

-- A zone ends with an ASCII byte.
zone_ascii : (rest : List ℕ)
    → (zone_len rest ≤ length rest) × (0 < zone_len rest → get_or rest (zone_len rest - 1) 0 < 128)
unfolding zone_len
zone_ascii (c0 ∷ c1 ∷ c2 ∷ c3 ∷ c4 ∷ c5 ∷ rest) = grind (arith, nat_tests)
zone_ascii rest = grind (arith, nat_tests)

pub timestamp_inside : (b : List ℕ) → IsUtf8 b → 19 ≤ length b → get_or b 18 0 < 128
    → IsRangeIn b (timestamp_len b) (length b)
timestamp_inside b utf8 long seconds =
    let from : ℕ = fraction_end b in
    let n : ℕ = zone_len (drop from b) in
    grind (
      arith,
      (fraction_ascii b long seconds),
      (zone_ascii (drop from b)),
      (length-drop from b),
      (get_or-drop from b (n - 1) 0),
      (IsCharBoundary-end b),
      (after_ascii b (from + n) utf8),
    )

-- The first boundary after an offset is the end of the character there.
pub char_end_is : (b : List ℕ) (at end : ℕ) → at ≤ length b → (at + 1 ≤ length b → at + 1 ≤ end)
    → IsCharBoundary b end
    → ((i : ℕ) → at + 1 ≤ i → i < end → ¬ (IsCharBoundary b i))
    → (length b < at + 1 → end ≡ length b) → end ≡ char_end b at
unfolding char_end
char_end_is b at end inside bound boundary nearest beyond =
    grind (
      arith,
      nat_tests,
      (length-drop (at + 1) b),
      (get_or-drop (at + 1) b),
      (prefix_len_is (is_in_range 128 191) (drop (at + 1) b) (end - (at + 1)) 0),
    )
