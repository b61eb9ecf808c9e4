-- The parts of a timestamp: numbers, fraction, punctuation and zone.
use Rattle.humantime.specs.PrivateFunctions.{digits_answer}
use Rattle.std.proofs.Common.{◌≡◌, ℕ, suc, ◌+◌, ◌*◌, ◌<◌, List, [], ◌∷◌, length, refl, add-one, arith, rules, zero, ◌/◌, ◌^◌, ◌++◌, replicate, get_or, take, drop, ◌≢◌, sym, append_assoc, drop-cons, drop_of_length-le, ◌-◌, ◌≤◌, true, false, slice_index, slice_range, min, if◌then◌else◌, Ok, Err, ◌==◌, ◌&&◌, codes, nat_eq, take-append-drop}
use Rattle.std.proofs.Math.Nat.{pow-suc, mul-le-mul_left, div-div-eq-div-mul}
use Rattle.std.proofs.lemmas.Bool.Decides.{nat_tests}
use Rattle.std.proofs.lemmas.Grind.{common_steps}
use Rattle.std.proofs.lemmas.List.{drop_more, take_rest}
use Rattle.std.proofs.lemmas.Str.{digit_value_digit}
use Rattle.std.specs.Char.{is_ascii_digit, digit_value}
use Rattle.std.specs.Int.{IsInRange}
use Rattle.std.specs.List.{AllByRecursion, ends_with}
use Rattle.std.specs.Prelude.{⊤}
use Rattle.std.specs.Str.{all_ascii_digits, byte}
use Rattle.std.specs.Str.Parse.{digits_value_after}
use Rattle.humantime.specs.Timestamps.{ends_in, Letter_Z, ZeroOffset, has_t_and_zone, may_be_fraction, has_two_digits, number_between, zone_of, before_zone, fraction_nanos, Fields, fraction_text, date_time_text, IsWeak, Zone, zone_text}
use Rattle.humantime.specs.declared.date.error.TimestampError.TheVariants.{InvalidDigit}
use Rattle.humantime.proofs.Dates.{valid_from_test}

-- ==== Numbers at their positions: the values of digits, and the ranges of date and time.

-- The two digits at offset `k`.
pub has_two_from_test : (bytes : List ℕ) (k : ℕ) → has_two_digits bytes k ≡ true
    → IsInRange 48 57 (slice_index bytes k) × IsInRange 48 57 (slice_index bytes (k + 1))
unfolding has_two_digits
has_two_from_test bytes k h = grind (arith, nat_tests)

-- The bytes from an offset on, one after the other.
pub next_byte : (bytes : List ℕ) (k to : ℕ) → k < to → to ≤ length bytes
    → slice_range bytes k to ≡ slice_index bytes k ∷ slice_range bytes (k + 1) to
next_byte bytes k to some long =
    let size : to - k ≡ suc (to - (k + 1)) = omega arith in
    rw (size, drop-cons bytes k 0 (omega arith), add-one k) refl

last_two : (bytes : List ℕ) (k to : ℕ) → to ≡ k + 2 → to ≤ length bytes
    → slice_range bytes k to ≡ slice_index bytes k ∷ slice_index bytes (k + 1) ∷ []
last_two bytes k to two long = grind (arith, (next_byte bytes k to), (next_byte bytes (k + 1) to))

pub number_of_two : (bytes : List ℕ) (k : ℕ) → k + 2 ≤ length bytes → has_two_digits bytes k ≡ true
    → number_between bytes k (k + 2) ≡ (slice_index bytes k - 48) * 10 + (slice_index bytes (k + 1) - 48)
unfolding number_between
number_of_two bytes k long h = grind (arith, last_two, has_two_from_test, digit_value_digit)

pub number_of_four : (bytes : List ℕ) → 4 ≤ length bytes → has_two_digits bytes 0 ≡ true
    → has_two_digits bytes 2 ≡ true
    → number_between bytes 0 4 ≡ (slice_index bytes 0 - 48) * 1000 + (slice_index bytes 1 - 48)
    * 100 + (slice_index bytes 2 - 48) * 10 + (slice_index bytes 3 - 48)
unfolding number_between
number_of_four bytes long century decade =
    rw (next_byte bytes 0 4 (omega arith) long, next_byte bytes 1 4 (omega arith) long, last_two bytes 2 4 refl long)
    (search (rules, has_two_from_test, digit_value_digit))

-- ==== The digits of a fraction, parsed one by one, are its nanoseconds.

-- Each byte is a digit.
abbrev pub AreDigits : List ℕ → Type 0
AreDigits ds = AllByRecursion (λ c. IsInRange 48 57 c) ds

pub digits_from_test : (ds : List ℕ) → all_ascii_digits ds ≡ true → AreDigits ds
digits_from_test [] h = tt
digits_from_test (c ∷ cs) h = grind (arith, nat_tests, digits_from_test cs)

pub digits_from : (ds : List ℕ) → AreDigits ds → all_ascii_digits ds ≡ true
digits_from [] d = refl
digits_from (c ∷ cs) d = grind (arith, nat_tests, (digits_from cs d.1))

-- ---- The nanoseconds are the weighted sum of the digits

-- `n` plus these digits, of which the first has the weight `u`, and each other one a tenth of the
-- weight before it.
abbrev pub add_digits : ℕ → ℕ → List ℕ → ℕ
add_digits n u [] = n
add_digits n u (c ∷ cs) = add_digits (n + u * (c - 48)) (u / 10) cs

add_nothing : (n : ℕ) (ds : List ℕ) → add_digits n 0 ds ≡ n
add_nothing n [] = refl
add_nothing n (c ∷ cs) = grind (arith, (add_nothing n cs))

weighted_digit : (m d p q : ℕ) → q ≡ p * 10 → (m * 10 + d) * p ≡ m * q + q / 10 * d
weighted_digit m d p q e = let tenth : q / 10 ≡ p = omega arith in rw (tenth, e) (grind arith)

-- The first `k` digits, padded with zeros.
filled : (k n m : ℕ) (ds : List ℕ) → AreDigits ds → k
    ≤ n → digits_value_after 10 m (take k (ds ++ replicate n 48))
    ≡ add_digits (m * 10 ^ k) (10 ^ k / 10) ds
filled zero n m ds digits h = grind (arith, (add_nothing m ds))
filled (suc k) (suc n) m [] digits h = grind (
  arith,
  (filled k n (m * 10 + 0) [] digits),
  (weighted_digit m 0 (10 ^ k) (10 ^ suc k)),
  (pow-suc 10 k),
)
filled (suc k) zero m [] digits h = absurd (omega arith)
filled (suc k) n m (c ∷ cs) digits h =
    grind (
      arith,
      (digit_value_digit c digits.0),
      (pow-suc 10 k),
      (weighted_digit m (c - 48) (10 ^ k) (10 ^ suc k)),
      (filled k n (m * 10 + digit_value c) cs digits.1),
    )

pub nanos_added : (ds : List ℕ) → AreDigits ds → fraction_nanos ds ≡ add_digits 0 100_000_000 ds
unfolding fraction_nanos
nanos_added ds digits = filled 9 9 0 ds digits (omega arith)

add_bound : (ds : List ℕ) (n u : ℕ) → AreDigits ds → n < 1_000_000_000 → n + 10 * u ≤ 1_000_000_000
    → add_digits n u ds < 1_000_000_000
add_bound [] n u digits low room = low
add_bound (c ∷ cs) n u digits low room =
    grind (
      arith,
      (add_bound cs (n + u * (c - 48)) (u / 10) digits.1),
      (mul-le-mul_left {m = c - 48} {n = 9} u (omega (arith, digits.0))),
    )

pub nanos_bound : (ds : List ℕ) → AreDigits ds → fraction_nanos ds < 1_000_000_000
nanos_bound ds digits =
    rw (nanos_added ds digits) (add_bound ds 0 100_000_000 digits (omega arith) (omega arith))

-- The weight of the digit at index `k + 1`.
pub next_place : (k : ℕ) → 100_000_000 / 10 ^ (k + 1) ≡ 100_000_000 / 10 ^ k / 10
next_place k = grind (arith, pow-suc 10 k, div-div-eq-div-mul 100_000_000 (10 ^ k) 10)

-- The digit at index `k` is added to `n`.
pub next_digit : (ds : List ℕ) (k n u : ℕ) → k < length ds → is_ascii_digit (get_or ds k 0) ≡ true
    → let m = n + u * (get_or ds k 0 - 48) in
    (add_digits n u (drop k ds) ≡ add_digits m (u / 10) (drop (k + 1) ds))
    × (all_ascii_digits (drop (k + 1) ds) ≡ all_ascii_digits (drop k ds))
    × (n < 1_000_000_000 → n + 10 * u ≤ 1_000_000_000 → (m < 1_000_000_000) × (m + 10 * (u / 10) ≤ 1_000_000_000))
next_digit ds k n u some digit =
    grind (
      arith,
      common_steps,
      drop-cons,
      add-one,
      nat_tests,
      (mul-le-mul_left {m = get_or ds k 0 - 48} {n = 9} u (grind (arith, nat_tests))),
    )

pub nine_read : (ds : List ℕ) (k n u : ℕ) → k ≡ min (length ds) 9 → u ≡ 100_000_000 / 10 ^ k
    → all_ascii_digits (drop k ds) ≡ all_ascii_digits ds
    → add_digits n u (drop k ds) ≡ add_digits 0 100_000_000 ds
    → (add_digits n u (drop k ds) ≡ n)
    × (digits_answer ds ≡ (if all_ascii_digits (drop k ds) then Ok n else Err InvalidDigit))
nine_read ds k n u end unit digits added =
    grind (arith, common_steps, nat_tests, add_nothing, (nanos_added ds), (digits_from_test ds))

-- ==== A property of digits, punctuation and separators is one of each byte of a timestamp.

-- A property of the digits, the punctuation and the separators.
abbrev pub HoldsOfBytes : (ℕ → Type 0) → Type 0
HoldsOfBytes P = ((c : ℕ) → IsInRange 48 57 c → P c) × P (byte "-") × P (byte ":") × P (byte ".")
    × P (byte "T") × P (byte " ")

pub digits_hold : (P : ℕ → Type 0) → HoldsOfBytes P → (ds : List ℕ) → AreDigits ds
    → AllByRecursion P ds
digits_hold P h [] digits = tt
digits_hold P h (c ∷ cs) digits = (h.0 c digits.0, digits_hold P h cs digits.1)

-- All bytes before the zone have the property.
pub holds_before_zone : (P : ℕ → Type 0) → HoldsOfBytes P → (text : List ℕ) (f : Fields)
    → IsWeak text f
    → AllByRecursion P (date_time_text f ++ fraction_text f.fraction)
holds_before_zone P p text f w =
    grind (arith, nat_tests, valid_from_test, digits_hold, digits_from_test)

-- ==== The zone at the end of a text.

-- The last six bytes, one by one.
last_six : (bytes : List ℕ) (k : ℕ) → k + 6 ≡ length bytes → drop k bytes ≡
    slice_index bytes k ∷ slice_index bytes (k + 1) ∷ slice_index bytes (k + 2)
    ∷ slice_index bytes (k + 3) ∷ slice_index bytes (k + 4) ∷ slice_index bytes (k + 5) ∷ []
last_six bytes k long = grind (arith, (λ (i : ℕ). drop_more bytes i 0), drop_of_length-le)

pub zero_offset_at_end : (bytes : List ℕ) → 6 ≤ length bytes
    → ends_with nat_eq bytes (codes "+00:00") ≡
    ((slice_index bytes (length bytes - 6) == 43) && (slice_index bytes (length bytes - 5) == 48)
    && (slice_index bytes (length bytes - 4) == 48)
    && (slice_index bytes (length bytes - 3) == 58) && (slice_index bytes (length bytes - 2) == 48)
    && (slice_index bytes (length bytes - 1) == 48))
zero_offset_at_end bytes long =
    rw (last_six bytes (length bytes - 6) (omega (arith, long))) (grind (arith, common_steps))

pub zone_shown : (bytes : List ℕ) → bytes ≡ before_zone bytes ++ zone_text (zone_of bytes)
unfolding zone_of
zone_shown bytes = grind (arith, common_steps, take-append-drop)

-- The byte is neither `+` nor `Z`.
abbrev pub IsPlain : ℕ → Type 0
IsPlain c = (c ≢ 43) × (c ≢ 90)

pub plain_bytes : HoldsOfBytes IsPlain
plain_bytes = grind arith

-- The zone is found after plain bytes.
pub zone_found : (xs : List ℕ) (z : Zone) → AllByRecursion IsPlain xs
    → zone_of (xs ++ zone_text z) ≡ z
unfolding zone_of
zone_found xs z h = grind (arith, common_steps, (sym (append_assoc xs (codes "+00:0") (codes "0"))))

-- The last byte.
last_one : (bytes : List ℕ) (k : ℕ) → k + 1 ≡ length bytes → drop k bytes ≡ slice_index bytes k ∷ []
last_one bytes k long = grind (arith, (λ (i : ℕ). drop_more bytes i 0), drop_of_length-le)

-- A text does not end in both zones.
pub one_zone : (bytes : List ℕ) → ends_in ZeroOffset bytes ≡ true → ends_in Letter_Z bytes ≡ false
one_zone bytes h =
    let long : 6 ≤ length bytes = search rules in
    let last = last_one bytes (length bytes - 1) (omega (arith, long)) in
    let six = zero_offset_at_end bytes long in
    grind (arith, common_steps, nat_tests, last, six)

-- What the test for a zone needs.
pub ruleset zones = (zero_offset_at_end, nat_tests)

-- What reading the digits of a fraction needs.
pub ruleset nine_digits =
    (next_digit, next_place, nine_read, take_rest, common_steps, nat_tests)

-- The definitions of zones and of fractions, opened together.
unfoldable pub zones_open : ⊤
unfolding has_t_and_zone zone_of
zones_open = tt

unfoldable pub fractions_open : ⊤
unfolding may_be_fraction fraction_nanos
fractions_open = tt
