-- The parts of a span as they are read: number, fraction, word and end.
use Rattle.humantime.specs.Characters.{begins, decimal_value, digits, is_digit, in_number, take_while, without_trailing_zeros}
use Rattle.humantime.specs.DurationErrors.{number_of, after_number, IsCharStartIn}
use Rattle.humantime.specs.PrivateFunctions.{whitespace_len}
use Rattle.humantime.specs.PrivateTypes.{HasDigits}
use Rattle.std.proofs.Common.{◌≡◌, ◌≤◌, ◌<◌, ◌+◌, ◌-◌, ◌*◌, ℕ, List, [], ◌∷◌, ◌++◌, arith, true, false, chars, drop, get_or, length, IsUtf8, IsCharBoundary, ◌≢◌, ◌^◌, sym, ap, ◌∙◌, length-append, ne_eqb, pow-add, take, append_assoc, append-nil, take-append-drop, refl}
use Rattle.std.proofs.Math.Nat.{one-le-pow, pow-le-pow_right, mul-le-mul_right}
use Rattle.std.proofs.lemmas.Bool.Decides.{nat_tests}
use Rattle.std.proofs.lemmas.Grind.{common_steps}
use Rattle.std.proofs.lemmas.List.{append_cancel_right}
use Rattle.std.proofs.lemmas.List.Elements.{filter-append}
use Rattle.std.proofs.lemmas.Str.{digit_value_digit, encodes-chars, IsCharBoundary-start, IsUtf8-take, chars-append, chars-nil}
use Rattle.std.specs.Char.{digit_value, is_ascii_digit}
use Rattle.std.specs.Str.Parse.{digits_value_after}
use Rattle.humantime.specs.declared.duration.digits.Fraction.{Fraction}
use Rattle.humantime.proofs.Offsets.{IsCharAt, digit_at, whitespace_over, no_whitespace, ascii_at, no_bytes, no_chars_at, slice_tail, tail_tail}
use Rattle.humantime.proofs.Characters.{take_while-drop_while, digit_is, digit_in_number, whitespace_in_number, digit_not_whitespace, digits_value-append, significant_shorter, significant_last, significant_zero, value_shifted, significant_long}

-- ==== Parsing the digits at the start of a text, one by one.

-- The digits are those from one offset to another in a text, and others may follow.
pub record IsRead (text : List ℕ) (at next : ℕ) (ds : List ℕ) : Type 0 where
  pub place : IsCharBoundary text next
  pub all : number_of (chars (drop at text)) ≡ ds ++ number_of (chars (drop next text))
  pub after : after_number (chars (drop next text)) ≡ after_number (chars (drop at text))

pub read_digit : (text : List ℕ) (at : ℕ) → IsUtf8 text → IsCharStartIn text at
    → is_ascii_digit (get_or text at 0) ≡ true
    → IsRead text at (at + 1) (get_or text at 0 ∷ [])
read_digit text at u here d =
    grind (arith, nat_tests, digit_in_number, (ascii_at text at u here), digit_is)

pub read_whitespace : (text : List ℕ) (at : ℕ) → IsUtf8 text → IsCharStartIn text at
    → 0 < whitespace_len (chars (drop at text))
    → IsRead text at (at + whitespace_len (chars (drop at text))) []
read_whitespace text at u here some =
    grind (arith, whitespace_in_number, digit_not_whitespace, (whitespace_over text at u))

-- There is neither a digit nor whitespace at this offset.
pub stops_here : (text bytes : List ℕ) (at : ℕ) → IsUtf8 text → bytes ≡ text → at < length bytes
    → IsCharBoundary text at → is_ascii_digit (get_or bytes at 0) ≡ false
    → ¬ (0 < whitespace_len (chars (drop at text)))
    → begins in_number (chars (drop at text)) ≡ false
stops_here text bytes at u same some place d w =
    grind (arith, common_steps, nat_tests, digit_at, no_whitespace)

-- The range of the bytes of digits.
pub digit_range : (c : ℕ) → is_digit c ≡ true → (48 ≤ c) × (c ≤ 57)
unfolding is_digit
digit_range c d = grind (arith, nat_tests)

-- A text that begins with a digit is not empty, and its first byte is a digit.
pub begun_has_bytes : (text : List ℕ) → IsUtf8 text → begins is_digit (chars text) ≡ true
    → 0 < length text
begun_has_bytes text u d = grind (arith, no_bytes)

first_is_digit : (text : List ℕ) → IsUtf8 text → begins is_digit (chars text) ≡ true
    → is_digit (get_or text 0 0) ≡ true
first_is_digit text u d =
    grind (
      arith,
      digit_is,
      (begun_has_bytes text u d),
      (digit_at text 0 u),
      (IsCharBoundary-start text u),
    )

pub first_digit : (text : List ℕ) → IsUtf8 text → begins is_digit (chars text) ≡ true
    → (get_or text 0 0 ≡ get_or text 0 0) × (48 ≤ get_or text 0 0) × (get_or text 0 0 ≤ 57)
first_digit text u d =
    let range = digit_range (get_or text 0 0) (first_is_digit text u d) in
    (refl, range.0, range.1)

pub value_more : (ds : List ℕ) (c : ℕ) → is_digit c ≡ true
    → decimal_value (ds ++ c ∷ []) ≡ decimal_value ds * 10 + (c - 48)
value_more ds c d = grind (arith, digits_value-append, digit_value_digit, (digit_range c d))

-- Further digits do not make a value smaller.
pub value_grows : (n : ℕ) (ds : List ℕ) → n ≤ digits_value_after 10 n ds
value_grows n [] = omega arith
value_grows n (d ∷ ds) = omega (arith, value_grows (n * 10 + digit_value d) ds)

pub value_least : (ds es : List ℕ) (c : ℕ) → is_digit c ≡ true
    → decimal_value ds * 10 + (c - 48) ≤ decimal_value (ds ++ c ∷ es)
value_least ds es c d =
    grind (arith, digits_value-append, digit_value_digit, (digit_range c d), value_grows)

-- ---- the digits before an offset

-- The characters before an offset, and those before the next one.
front_longer : (text : List ℕ) (at char next : ℕ) → IsUtf8 text → IsCharBoundary text at
    → IsCharAt text at char next → chars (take next text) ≡ chars (take at text) ++ char ∷ []
front_longer text at char next u place here =
    append_cancel_right _ _ (chars (drop next text))
    (grind (
      arith,
      append_assoc,
      here.ahead,
      (chars-append (take at text) (drop at text) (IsUtf8-take text at u place)),
      (chars-append (take next text) (drop next text) (IsUtf8-take text next u here.place)),
      (take-append-drop at text),
      (take-append-drop next text),
    ))

-- The digits from one offset in a number to the next one.
abbrev pub Passes : List ℕ → ℕ → ℕ → List ℕ → Type 0
Passes text at next ds =
    IsRead text at next ds
    × (digits (chars (take next text)) ≡ digits (chars (take at text)) ++ ds)

-- There is a digit at an offset, whitespace, or neither. Each conclusion begins with the test, by
-- which `grind` finds the lemma.
pub passes_digit : (text : List ℕ) (at : ℕ) → IsUtf8 text → IsCharStartIn text at
    → is_ascii_digit (get_or text at 0) ≡ true
    → (is_ascii_digit (get_or text at 0) ≡ true)
    × Passes text at (at + 1) (get_or text at 0 ∷ [])
passes_digit text at u here d =
    grind (
      arith,
      nat_tests,
      (read_digit text at u here d),
      (front_longer text at (get_or text at 0) (at + 1) u here.1),
      (ascii_at text at u here),
      digit_is,
      filter-append,
    )

pub passes_whitespace : (text : List ℕ) (at : ℕ) → IsUtf8 text → IsCharStartIn text at
    → 0 < whitespace_len (chars (drop at text))
    → (0 < whitespace_len (chars (drop at text)))
    × Passes text at (at + whitespace_len (chars (drop at text))) []
passes_whitespace text at u here some =
    let over = whitespace_over text at u here some in
    grind (
      arith,
      (read_whitespace text at u here some),
      (front_longer text at over.0 _ u here.1 over.2),
      digit_not_whitespace,
      over.1,
      filter-append,
      append-nil,
    )

pub no_number : (text : List ℕ) (at : ℕ) → IsUtf8 text → IsCharStartIn text at
    → is_ascii_digit (get_or text at 0) ≡ false → ¬ (0 < whitespace_len (chars (drop at text)))
    → (is_ascii_digit (get_or text at 0) ≡ false)
    × (take_while in_number (chars (drop at text)) ≡ [])
    × (after_number (chars (drop at text)) ≡ chars (drop at text))
no_number text at u here d w =
    grind (arith, common_steps, nat_tests, (stops_here text text at u refl here.0 here.1 d w))

-- The number at the start of a text is that before an offset and that from the offset on.
abbrev pub AreFrontAndRest : (text front rest : List ℕ) → Type 0
AreFrontAndRest text front rest =
    (take_while in_number text ≡ front ++ take_while in_number rest)
    × (number_of text ≡ digits front ++ number_of rest)

-- This holds for an offset in the number or at its end.
pub number_parted : (text : List ℕ) (at : ℕ) → IsUtf8 text → IsCharBoundary text at
    → after_number (chars (drop at text)) ≡ after_number (chars text)
    → (chars (take at text) ≡ chars (take at text))
    × AreFrontAndRest (chars text) (chars (take at text)) (chars (drop at text))
number_parted text at u place after =
    let rest = take_while in_number (chars (drop at text)) in
    let parted : take_while in_number (chars text) ≡ chars (take at text) ++ rest =
    append_cancel_right _ _ (after_number (chars text))
    (grind (
      arith,
      append_assoc,
      after,
      (chars-append (take at text) (drop at text) (IsUtf8-take text at u place)),
      (take-append-drop at text),
      (take_while-drop_while in_number (chars text)),
      (take_while-drop_while in_number (chars (drop at text))),
    )) in
    grind (arith, parted, filter-append)

-- The first digit of a number.
pub first_passed : (text : List ℕ) → IsUtf8 text → begins is_digit (chars text) ≡ true
    → IsCharBoundary text 1 × (after_number (chars (drop 1 text)) ≡ after_number (chars text))
    × (decimal_value (digits (chars (take 1 text))) ≡ get_or text 0 0 - 48)
first_passed text u d =
    let is = first_is_digit text u d in
    let start : IsCharStartIn text 0 = (begun_has_bytes text u d, IsCharBoundary-start text u) in
    let first = passes_digit text 0 u start (digit_is _ ∙ is) in
    grind (arith, first, chars-nil, (value_more [] (get_or text 0 0) is))

-- ==== Parsing a fraction digit by digit.

pub power_positive : (n : ℕ) → 0 < 10 ^ n
power_positive n = one-le-pow n 10 (omega arith)

-- There are no more digits before the trailing zeros than in all.
pub fewer : (f : Fraction) (ds : List ℕ) → HasDigits f ds → f.exponent ≤ f.len
fewer f ds h = grind (arith, h.is, significant_shorter)

-- Another digit follows the zeros, and the value stays below the power of ten.
pub extended_below : (f : Fraction) (ds : List ℕ) (c : ℕ) → HasDigits f ds → is_digit c ≡ true
    → f.significand * 10 ^ (f.len + 1 - f.exponent) + (c - 48) < 10 ^ (f.len + 1)
extended_below f ds c h is =
    let k = f.len + 1 - f.exponent in
    let within = fewer f ds h in
    let below : (f.significand + 1) * 10 ^ k ≤ 10 ^ f.exponent * 10 ^ k =
    mul-le-mul_right (10 ^ k) (omega (arith, h.fits)) in
    let sum : 10 ^ (f.len + 1) ≡ 10 ^ f.exponent * 10 ^ k =
    ap (10 ^◌) (omega (arith, within)) ∙ pow-add 10 f.exponent k in
    omega (
      arith,
      sum,
      below,
      digit_range c is,
      pow-le-pow_right {n = 10} (omega arith) {i = 1} {j = k} (omega (arith, within)),
    )

-- So the value with a digit more fits.
pub digit_fits : (f : Fraction) (ds : List ℕ) (c p : ℕ) → HasDigits f ds → is_digit c ≡ true
    → f.len + 1 ≤ 19 → p ≡ 10 ^ (f.len + 1 - f.exponent)
    → f.significand * p + (c - 48) < 2 ^ 64
digit_fits f ds c p h is few power =
    rw power
    (omega (
      arith,
      extended_below f ds c h is,
      pow-le-pow_right {n = 10} (omega arith) {i = f.len + 1} {j = 19} few,
    ))

-- So does the product to which the digit is added.
pub shift_fits : (f : Fraction) (ds : List ℕ) (c p : ℕ) → HasDigits f ds → is_digit c ≡ true
    → f.len + 1 ≤ 19 → p ≡ 10 ^ (f.len + 1 - f.exponent) → f.significand * p < 2 ^ 64
shift_fits f ds c p h is few power = omega (arith, digit_fits f ds c p h is few power)

-- The value of digits that another one than 0 follows.
pub value_extended : (ds : List ℕ) (c : ℕ) → is_digit c ≡ true → c ≢ 48
    → decimal_value (without_trailing_zeros (ds ++ c ∷ []))
    ≡ decimal_value (without_trailing_zeros ds)
    * 10 ^ (length ds + 1 - length (without_trailing_zeros ds)) + (c - 48)
value_extended ds c is some =
    grind (
      arith,
      (value_shifted (ds ++ 48 ∷ []) (length ds + 1 - length (without_trailing_zeros ds))),
      (significant_last ds c (ne_eqb c 48 some)),
      significant_shorter,
      significant_zero,
      (value_more ds 48 (sym (digit_is 48))),
      (value_more ds c is),
      length-append,
    )

-- None of these is a trailing zero.
pub length_extended : (ds : List ℕ) (c : ℕ) → c ≢ 48
    → length (without_trailing_zeros (ds ++ c ∷ [])) ≡ length ds + 1
length_extended ds c some =
    grind (arith, (significant_last ds c (ne_eqb c 48 some)), length-append)

-- What reading digits and whitespace needs.
pub ruleset number_digits = (
  passes_digit,
  passes_whitespace,
  number_parted,
  no_number,
  no_chars_at,
  chars-nil,
  slice_tail,
  IsCharBoundary-start,
  digit_is,
  append-nil,
  append_assoc,
  length-append,
  nat_tests,
)

-- What reading the digits of a number needs.
pub ruleset numbers = (begun_has_bytes, first_digit, value_more, value_least, number_digits)

-- What appending a digit to a fraction needs.
pub ruleset fractions = (
  fewer,
  extended_below,
  digit_fits,
  shift_fits,
  value_extended,
  length_extended,
  significant_long,
  significant_zero,
  digit_range,
  length-append,
  common_steps,
)

pub no_zeros : without_trailing_zeros [] ≡ []
unfolding without_trailing_zeros
no_zeros = refl

-- What reading the digits of a fraction needs.
pub ruleset fraction_digits = (no_zeros, number_digits)

-- What reading a span from its fraction on needs.
pub ruleset spans = (no_bytes, tail_tail, encodes-chars, nat_tests)
