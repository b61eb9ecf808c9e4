-- The layout of a timestamp, tested on all bytes at once.
use Rattle.humantime.specs.PrivateFunctions.{has_layout}
use Rattle.humantime.specs.TimestampResults.{weak_answer}
use Rattle.humantime.specs.Timestamps.{Letter_T, Space, Fields, fraction_digits, has_two_digits, has_punctuation, has_digits, date_time_of, is_valid_date_time, zone_of, fraction_part, may_be_fraction, weak_checks, first_failed, has_separator}
use Rattle.humantime.specs.declared.date.parse.DateTime.{DateTime}
use Rattle.std.proofs.Common.{◌≡◌, ℕ, ◌≤◌, List, [], ◌∷◌, length, get_or, drop, refl, arith, ◌+◌, ◌-◌, ◌%◌, ◌^◌, ◌<◌, Bool, cond, eqb, ltb, ◌&&◌, map, replicate, take, Fits, w8, ap, ◌∙◌, ◌*◌, T, le-leb, true, false, slice_index, Option, Some, None, ◌==◌, if◌then◌else◌, codes, nat_eq, bit_or}
use Rattle.std.proofs.lemmas.Bool.{and_parts, agree_below_at}
use Rattle.std.proofs.lemmas.Bool.Decides.{nat_tests}
use Rattle.std.proofs.lemmas.Grind.{common_steps}
use Rattle.std.proofs.lemmas.List.{take_rest}
use Rattle.std.proofs.lemmas.List.Folds.{list_all-map}
use Rattle.std.proofs.lemmas.Nat.{le_or_l, le_or_r}
use Rattle.std.proofs.lemmas.Result.{err_from_is_err_and}
use Rattle.std.specs.Char.{is_ascii_digit}
use Rattle.std.specs.List.{list_all}
use Rattle.std.specs.Prelude.{⊤}
use Rattle.std.specs.Str.{byte, all_ascii_digits}
use Rattle.std.proofs.lemmas.Simd.{mask_l-mod, tops_compared, length-zip2, zip2_splat}
use native.Mathlib.Nat.{two-pow-succ, one-le-pow}
use lib.Lanes.{zip2, mask_l, top, sel_l, dots, all_below, pair_sums, products}
use mir.Val.{bits, hbits}
use Rattle.humantime.proofs.TimestampParts.{has_two_from_test, number_of_two, number_of_four}

-- ==== The meaning of each check on a timestamp.

-- No check of the weak format fails.
pub all_passed : (bytes : List ℕ) → first_failed (weak_checks bytes) ≡ None
    → (19 ≤ length bytes) × (has_punctuation bytes ≡ true) × (has_digits bytes ≡ true)
    × (is_valid_date_time (date_time_of bytes) ≡ true)
    × (may_be_fraction (fraction_part bytes) ≡ true)
    × (all_ascii_digits (drop 1 (fraction_part bytes)) ≡ true)
all_passed bytes h = grind (arith, nat_tests)

-- Without a separator, the punctuation is wrong.
pub no_separator : (bytes : List ℕ) → has_separator bytes ≡ false → has_punctuation bytes ≡ false
unfolding has_punctuation
no_separator bytes h = grind (arith, nat_tests)

-- The parts of a right layout.
pub layout_parts : (bytes : List ℕ) → has_layout bytes ≡ true
    → (19 ≤ length bytes) × (has_punctuation bytes ≡ true) × (has_digits bytes ≡ true)
unfolding has_layout
layout_parts bytes h = grind (arith, nat_tests)

-- The digits after the point, if there is one.
abbrev pub digits_after_point : List ℕ → Option (List ℕ)
digits_after_point [] = None
digits_after_point (_ ∷ ds) = Some ds

-- The fields at their positions.
abbrev pub fields_of : List ℕ → Fields
fields_of bytes = record {
  date = (date_time_of bytes).date;
  separator = if slice_index bytes 10 == byte "T" then Letter_T else Space;
  hour = (date_time_of bytes).hour;
  minute = (date_time_of bytes).minute;
  second = (date_time_of bytes).second;
  fraction = digits_after_point (fraction_part bytes);
  zone = zone_of (drop 19 bytes);
}

-- The pairs of digits at their positions.
pub pairs_from_test : (bytes : List ℕ) → has_digits bytes ≡ true
    → (has_two_digits bytes 0 ≡ true) × (has_two_digits bytes 2 ≡ true)
    × (has_two_digits bytes 5 ≡ true)
    × (has_two_digits bytes 8 ≡ true)
    × (has_two_digits bytes 11 ≡ true) × (has_two_digits bytes 14 ≡ true)
    × (has_two_digits bytes 17 ≡ true)
unfolding has_digits
pairs_from_test bytes h = grind (arith, and_parts)

pub part_digits : (part : List ℕ) → fraction_digits (digits_after_point part) ≡ drop 1 part
part_digits part = grind arith

-- The first 19 bytes, and the rest.
pub nineteen : (bytes : List ℕ) → 19 ≤ length bytes
    → bytes ≡ get_or bytes 0 0 ∷ get_or bytes 1 0 ∷ get_or bytes 2 0 ∷ get_or bytes 3 0
    ∷ get_or bytes 4 0 ∷ get_or bytes 5 0 ∷ get_or bytes 6 0 ∷ get_or bytes 7 0
    ∷ get_or bytes 8 0 ∷ get_or bytes 9 0
    ∷ get_or bytes 10 0 ∷ get_or bytes 11 0 ∷ get_or bytes 12 0 ∷ get_or bytes 13 0
    ∷ get_or bytes 14 0 ∷ get_or bytes 15 0 ∷ get_or bytes 16 0 ∷ get_or bytes 17 0
    ∷ get_or bytes 18 0 ∷ drop 19 bytes
nineteen (b0 ∷ b1 ∷ b2 ∷ b3 ∷ b4 ∷ b5 ∷ b6 ∷ b7 ∷ b8 ∷ b9 ∷ b10 ∷ b11 ∷ b12 ∷ b13 ∷ b14 ∷ b15 ∷ b16
    ∷ b17 ∷ b18 ∷ r) h =
    refl
nineteen _ h = absurd (omega arith)

-- ==== Bytes and numbers that are tested at once are tested as if one by one.

-- All bits of a mask are set.
abbrev pub are_set : List Bool → Bool
are_set ms = list_all (λ m. m) ms

all_bits : (ms : List Bool) → eqb (mask_l ms) (2 ^ length ms - 1) ≡ are_set ms
all_bits [] = refl
all_bits (m ∷ ms) = grind (
  arith,
  nat_tests,
  (all_bits ms),
  two-pow-succ (length ms),
  one-le-pow (length ms) 2 (omega arith),
)

-- The lanes of a vector, compared with zero.
zeros_compared : (xs : List ℕ) → length xs ≡ 16
    → eqb (mask_l (map (top (hbits w8))
    (zip2 (λ a b. cond (eqb a b) (2 ^ bits w8 - 1) 0) xs (replicate 16 0))) % 2 ^ 64)
    (2 ^ 16 - 1) ≡ list_all (λ x. eqb x 0) xs
zeros_compared xs long =
    let size = length-zip2 eqb xs (replicate 16 0) long ∙ long in
    rw (tops_compared w8 eqb xs (replicate 16 0), mask_l-mod (zip2 eqb xs (replicate 16 0)) 64 (omega (arith, size)))
    (rw size at (all_bits (zip2 eqb xs (replicate 16 0))) ∙ ap are_set
    (zip2_splat eqb xs 16 0 long) ∙ list_all-map (λ m. m) (λ x. eqb x 0) xs)

-- The difference of two bytes, wrapping around.
abbrev pub above : ℕ → ℕ → ℕ
above a least = (a + (2 ^ 8 - least)) % 2 ^ 8

-- How far a number exceeds its maximum, or 0.
abbrev excess : ℕ → ℕ → ℕ
excess a most = above (cond (top 7 (cond (ltb a most) 255 0)) most a) most

sign_excess : (c sign : ℕ) → c < 256 → sign < 256 → nat_eq (excess (above c sign) 0) 0 ≡ (c == sign)
sign_excess c sign h k = grind (arith, nat_tests)

both : (a b : ℕ) {p q : Bool} → nat_eq a 0 ≡ p → nat_eq b 0 ≡ q → nat_eq (bit_or a b) 0 ≡ (p && q)
both a b e f = grind (arith, nat_tests, le_or_l a b, le_or_r a b)

-- The minimum of each of the first 16 bytes, and of those from the fourth byte on.
abbrev pub least : List ℕ
least = codes "0000-00-00 00:00"

abbrev pub least_back : List ℕ
least_back = codes "0-00-00 00:00:00"

-- How far the numbers exceed their maxima.
abbrev excesses : List ℕ → List ℕ → List ℕ
excesses xs most =
    zip2 above (sel_l (map (top 7) (zip2 (λ a m. cond (ltb a m) 255 0) xs most)) most xs) most

abbrev pub beyond : List ℕ → List ℕ
beyond bytes =
    zip2 bit_or (excesses (zip2 above (take 16 bytes) least)
    (9 ∷ 9 ∷ 9 ∷ 9 ∷ 0 ∷ 9 ∷ 9 ∷ 0 ∷ 9 ∷ 9 ∷ 255 ∷ 9 ∷ 9 ∷ 0 ∷ 9 ∷ 9 ∷ []))
    (excesses (zip2 above (take 16 (drop 3 bytes)) least_back)
    (9 ∷ 0 ∷ 9 ∷ 9 ∷ 0 ∷ 9 ∷ 9 ∷ 255 ∷ 9 ∷ 9 ∷ 0 ∷ 9 ∷ 9 ∷ 0 ∷ 9 ∷ 9 ∷ []))

-- The punctuation can be tested first, and then the digits.
signs_first : (s t u v a b c d e f g h i j k l m n : Bool)
    → are_set ((a && d) ∷ (b && s) ∷ (c && e) ∷ (d && f) ∷ (s && t) ∷ (e && g) ∷ (f && h) ∷ (t && true)
    ∷ (g && i) ∷ (h && j) ∷ (true && u) ∷ (i && k) ∷ (j && l) ∷ (u && v) ∷ (k && m) ∷ (l && n) ∷ [])
    ≡ ((s && t && true && u && v) && ((a && b) && ((c && d)
    && ((e && f) && ((g && h) && ((i && j) && ((k && l) && ((m && n) && true))))))))
signs_first s t u v a b c d e f g h i j k l m n = grind arith

bytes_tested : (bytes : List ℕ) → 19 ≤ length bytes → ((k : ℕ) → Fits w8 (get_or bytes k 0))
    → has_separator bytes ≡ true
    → list_all (λ n. nat_eq n 0) (beyond bytes) ≡ has_layout bytes
unfolding has_layout has_punctuation has_digits has_two_digits
bytes_tested bytes long fits separator =
    let byte = λ (k : ℕ). get_or bytes k 0 in
    let shown = λ (k : ℕ). is_ascii_digit (byte k) in
    let digit =
    λ (k : ℕ). agree_below_at (λ c. nat_eq (excess (above c 48) 9) 0) is_ascii_digit 256
    (byte k) refl (fits k).fits in
    let dash = λ (k : ℕ). sign_excess (byte k) 45 (fits k).fits (omega arith) in
    let colon = λ (k : ℕ). sign_excess (byte k) 58 (fits k).fits (omega arith) in
    let free = agree_below_at (λ n. nat_eq (excess n 255) 0) (λ _. true) 256 (above (byte 10) 32)
    refl (omega arith) in
    ap (λ (bytes : List ℕ). list_all (λ n. nat_eq n 0) (beyond bytes)) (nineteen bytes long)
    ∙ (λ i. are_set (
    both _ _ (digit 0) (digit 3) i ∷ both _ _ (digit 1) (dash 4) i ∷ both _ _ (digit 2) (digit 5) i
    ∷ both _ _ (digit 3) (digit 6) i
    ∷ both _ _ (dash 4) (dash 7) i ∷ both _ _ (digit 5) (digit 8) i ∷ both _ _ (digit 6) (digit 9) i
    ∷ both _ _ (dash 7) free i
    ∷ both _ _ (digit 8) (digit 11) i ∷ both _ _ (digit 9) (digit 12) i ∷ both _ _ free (colon 13) i
    ∷ both _ _ (digit 11) (digit 14) i
    ∷ both _ _ (digit 12) (digit 15) i ∷ both _ _ (colon 13) (colon 16) i
    ∷ both _ _ (digit 14) (digit 17) i ∷ both _ _ (digit 15) (digit 18) i ∷ []
    ))
    ∙ rw (separator, le-leb 19 (length bytes) long)
    (signs_first (byte 4 == 45) (byte 7 == 45) (byte 13 == 58) (byte 16 == 58)
    (shown 0) (shown 1) (shown 2) (shown 3) (shown 5) (shown 6) (shown 8) (shown 9) (shown 11)
    (shown 12) (shown 14) (shown 15) (shown 17) (shown 18))

-- All lanes are tested at once.
pub layout_tested : (bytes : List ℕ) → 19 ≤ length bytes → ((k : ℕ) → Fits w8 (get_or bytes k 0))
    → has_separator bytes ≡ true
    → eqb (mask_l (map (top (hbits w8))
    (zip2 (λ a b. cond (eqb a b) (2 ^ bits w8 - 1) 0) (beyond bytes) (replicate 16 0))) % 2 ^
    64)
    (2 ^ 16 - 1) ≡ has_layout bytes
layout_tested bytes long fits separator =
    zeros_compared (beyond bytes) (ap (λ (bytes : List ℕ). length (beyond bytes))
    (nineteen bytes long)) ∙ bytes_tested bytes long fits separator

-- ==== The weighted sums of digits are the numbers of date and time.

-- The weights of the first 16 bytes, and of those from byte 3 on.
abbrev front_weights : List ℕ
front_weights = 100 ∷ 10 ∷ 1 ∷ 0 ∷ 0 ∷ 10 ∷ 1 ∷ 0 ∷ 10 ∷ 1 ∷ 0 ∷ 0 ∷ 0 ∷ 0 ∷ 10 ∷ 1 ∷ []

abbrev back_weights : List ℕ
back_weights = 1 ∷ 0 ∷ 0 ∷ 0 ∷ 0 ∷ 0 ∷ 0 ∷ 0 ∷ 10 ∷ 1 ∷ 0 ∷ 0 ∷ 0 ∷ 0 ∷ 10 ∷ 1 ∷ []

-- The sums of two products fit the 16 bits in which they are computed.
pub sums_fit : (bytes : List ℕ) → 19 ≤ length bytes
    → T (all_below 32768 (pair_sums (products (zip2 above (take 16 bytes) least) front_weights)))
    × T (all_below 32768 (pair_sums (products (zip2 above (take 16 (drop 3 bytes)) least_back) back_weights)))
sums_fit bytes long =
    (grind (arith, common_steps, nat_tests), grind (arith, common_steps, nat_tests))

-- The numbers, by the sums over the first 16 bytes and over those from byte 3 on.
abbrev summed : List ℕ → DateTime
summed bytes =
    let front = slice_index (dots (zip2 above (take 16 bytes) least) front_weights) in
    let back = slice_index (dots (zip2 above (take 16 (drop 3 bytes)) least_back) back_weights) in
    record {
      date = record { year = front 0 * 10 + back 0; month = front 1; day = front 2 };
      hour = back 2;
      minute = front 3;
      second = back 3;
    }

pub date_time_summed : (bytes : List ℕ) → has_layout bytes ≡ true
    → summed bytes ≡ date_time_of bytes
date_time_summed bytes layout =
    let parts = layout_parts bytes layout in
    ap summed (nineteen bytes parts.0) ∙ grind (
      arith,
      (pairs_from_test bytes parts.2),
      has_two_from_test,
      number_of_four,
      number_of_two,
    )

-- What the checks of a timestamp need, and the definitions that they open.
pub ruleset checks = (
  layout_parts,
  common_steps,
  nat_tests,
  err_from_is_err_and,
  le-leb,
  take_rest,
  no_separator,
)

unfoldable pub checks_open : ⊤
unfolding has_layout weak_answer
checks_open = tt

unfoldable pub marks_open : ⊤
unfolding has_punctuation has_layout weak_answer
marks_open = tt
