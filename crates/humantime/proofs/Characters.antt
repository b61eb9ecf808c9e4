-- Classes of characters, the longest runs of a class, and the value of digits.
use Rattle.humantime.specs.Characters.{whitespace_chars, is_whitespace, is_digit, is_letter, is_point, in_number, without_trailing_zeros, take_while, drop_while, begins, ends, decimal_value}
use Rattle.humantime.specs.Durations.{HasOnly, is_exact_fraction}
use Rattle.std.proofs.Common.{◌≡◌, ◌≤◌, ◌<◌, ℕ, true, false, refl, arith, ◌≢◌, Bool, List, [], ◌∷◌, ◌++◌, length, ap, inl, inr, length-append, ◌+◌, ◌*◌, ◌/◌, ◌%◌, ◌^◌, append_assoc, reverse, ◌&&◌, ◌||◌, ◌==◌, nat_le, Decides, pow-add}
use Rattle.std.proofs.lemmas.Bool.{agree_below_at, or_left, or_right, cases_Bool}
use Rattle.std.proofs.lemmas.Bool.Decides.{nat_tests}
use Rattle.std.proofs.lemmas.Grind.{common_steps}
use Rattle.std.proofs.lemmas.List.{length-reverse, reverse-append, reverse-reverse}
use Rattle.std.specs.List.{AllByRecursion, list_all}
use Rattle.std.specs.Str.Parse.{digits_value_after}
use Rattle.std.specs.Char.{is_whitespace as std_is_whitespace, is_ascii_digit, digit_value}
use Rattle.std.proofs.lemmas.Nat.Gcd.{dvd_of_mod-eq-zero, mod-eq-zero_of_dvd}
use Rattle.std.proofs.Math.Nat.{pow-suc, one-le-pow, mul_assoc, mul_right_comm, mul-div-mul_right, dvd_of_mul-dvd-mul_right, le-mul_of_pos_right}

-- ==== The classes of characters are disjoint.

-- The whitespace characters of the list are those of std.
pub whitespace_is : (c : ℕ) → std_is_whitespace c ≡ is_whitespace c
unfolding is_whitespace whitespace_chars
whitespace_is c = grind (arith, nat_tests)

pub digit_not_whitespace : (c : ℕ) → is_digit c ≡ true → is_whitespace c ≡ false
unfolding is_digit
digit_not_whitespace c e = grind (arith, nat_tests, (whitespace_is c))

pub letter_not_whitespace : (c : ℕ) → is_letter c ≡ true → is_whitespace c ≡ false
unfolding is_letter
letter_not_whitespace c e = grind (arith, nat_tests, (whitespace_is c))

-- Up to U+007F, whitespace is the tab, the four characters after it, and the space.
pub ascii_whitespace : (c : ℕ) → c < 128
    → is_whitespace c ≡ (c == 32 || (nat_le 9 c && nat_le c 13))
unfolding is_whitespace whitespace_chars
ascii_whitespace c low =
    agree_below_at is_whitespace (λ c. c == 32 || (nat_le 9 c && nat_le c 13)) 128 c refl low

pub point_not_in_number : (c : ℕ) → is_point c ≡ true → in_number c ≡ false
unfolding is_digit is_point
point_not_in_number c e = grind (arith, (whitespace_is c), nat_tests)

pub digit_in_number : (c : ℕ) → is_digit c ≡ true → in_number c ≡ true
digit_in_number c = or_left (is_digit c) (is_whitespace c)

pub whitespace_in_number : (c : ℕ) → is_whitespace c ≡ true → in_number c ≡ true
whitespace_in_number c = or_right (is_digit c) (is_whitespace c)

-- Digits are ASCII.
pub digit_is : (c : ℕ) → is_ascii_digit c ≡ is_digit c
unfolding is_digit
digit_is c = refl

-- ==== Tests of each element, the longest prefix of a text that passes a test, and what follows it.

pub all_pass : {A : Type 0} (p : A → Bool) (xs : List A)
    → Decides (list_all p xs) (AllByRecursion (λ x. p x ≡ true) xs)
all_pass p [] = grind arith
all_pass p (x ∷ xs) = grind (arith, (all_pass p xs))

pub take_while-drop_while : (p : ℕ → Bool) (cs : List ℕ) → take_while p cs ++ drop_while p cs ≡ cs
take_while-drop_while p [] = refl
take_while-drop_while p (c ∷ cs) = elim (cases_Bool (p c))
    [ inl e ↦ rw e (ap (λ (x : List ℕ). c ∷ x) (take_while-drop_while p cs)) | inr e ↦ rw e ]

pub take_while-only : (p : ℕ → Bool) (cs : List ℕ) → HasOnly p (take_while p cs)
take_while-only p [] = tt
take_while-only p (c ∷ cs) =
    elim (cases_Bool (p c)) [ inl e ↦ rw e (e, take_while-only p cs) | inr e ↦ rw e tt ]

pub begins-drop_while : (p : ℕ → Bool) (cs : List ℕ) → begins p (drop_while p cs) ≡ false
begins-drop_while p [] = refl
begins-drop_while p (c ∷ cs) =
    elim (cases_Bool (p c)) [ inl e ↦ rw e (begins-drop_while p cs) | inr e ↦ rw e e ]

pub begins_take_while : (p q : ℕ → Bool) (cs : List ℕ) → begins p cs ≡ true
    → ((c : ℕ) → p c ≡ true → q c ≡ true)
    → begins p (take_while q cs) ≡ true
begins_take_while p q cs h k = grind arith

-- A prefix that passes the test, followed by a text that does not begin with such a character.
pub take_while-append : (p : ℕ → Bool) (xs ys : List ℕ) → HasOnly p xs → begins p ys ≡ false
    → take_while p (xs ++ ys) ≡ xs
take_while-append p [] ys h e = grind arith
take_while-append p (x ∷ xs) ys h e = grind (arith, (take_while-append p xs ys h.1 e))

pub drop_while-append : (p : ℕ → Bool) (xs ys : List ℕ) → HasOnly p xs → begins p ys ≡ false
    → drop_while p (xs ++ ys) ≡ ys
drop_while-append p [] ys h e = grind arith
drop_while-append p (x ∷ xs) ys h e = rw (h.0) (drop_while-append p xs ys h.1 e)

pub drop_while_shorter : (p : ℕ → Bool) (cs : List ℕ) → length (drop_while p cs) ≤ length cs
drop_while_shorter p cs = omega (
  arith,
  ap length (take_while-drop_while p cs),
  length-append (take_while p cs) (drop_while p cs),
)

pub ends_only : (p : ℕ → Bool) (cs : List ℕ) → HasOnly p cs → cs ≢ [] → ends p cs ≡ true
ends_only p [] h some = absurd (some refl)
ends_only p (c ∷ cs) h some = grind (arith, (ends_only p cs h.1))

-- A text that ends with a character of one class does not end with one of another.
pub ends_other : (p q : ℕ → Bool) → ((c : ℕ) → p c ≡ true → q c ≡ false) → (cs : List ℕ)
    → ends p cs ≡ true → ends q cs ≡ false
ends_other p q other [] e = refl
ends_other p q other (c ∷ cs) e = grind (arith, other, (ends_other p q other cs))

-- A text begins like its first part, and ends like its last part.
pub begins-append : (p : ℕ → Bool) (xs ys : List ℕ) → xs ≢ [] → begins p (xs ++ ys) ≡ begins p xs
begins-append p xs ys h = grind (arith, common_steps)

pub ends-append : (p : ℕ → Bool) (xs ys : List ℕ) → ys ≢ [] → ends p (xs ++ ys) ≡ ends p ys
ends-append p [] ys some = refl
ends-append p (x ∷ []) ys some = grind arith
ends-append p (x ∷ z ∷ xs) ys some = ends-append p (z ∷ xs) ys some

-- ==== The digits of a fraction without its trailing zeros.

abbrev is_zero : ℕ → Bool
is_zero d = d == 48

-- The trailing zeros.
abbrev zeros_of : List ℕ → List ℕ
zeros_of ds = take_while is_zero (reverse ds)

significant_and_zeros : (ds : List ℕ) → ds ≡ without_trailing_zeros ds ++ reverse (zeros_of ds)
unfolding without_trailing_zeros
significant_and_zeros ds = grind (
  arith,
  common_steps,
  reverse-append,
  reverse-reverse,
  (take_while-drop_while is_zero (reverse ds)),
)

-- Another digit than zero keeps all digits before it.
pub significant_last : (ds : List ℕ) (d : ℕ) → (d == 48) ≡ false
    → without_trailing_zeros (ds ++ d ∷ []) ≡ ds ++ d ∷ []
unfolding without_trailing_zeros
significant_last ds d e = grind (arith, common_steps, reverse-append, reverse-reverse)

pub significant_zero : (ds : List ℕ)
    → without_trailing_zeros (ds ++ 48 ∷ []) ≡ without_trailing_zeros ds
unfolding without_trailing_zeros
significant_zero ds = rw (reverse-append ds (48 ∷ []))

drop_while_long : (p : ℕ → Bool) (xs ys : List ℕ) (d : ℕ) → p d ≡ false
    → length ys < length (drop_while p (xs ++ d ∷ ys))
drop_while_long p [] ys d e = grind arith
drop_while_long p (x ∷ xs) ys d e = grind (arith, (drop_while_long p xs ys d e), length-append)

pub significant_long : (ds es : List ℕ) (d : ℕ) → (d == 48) ≡ false
    → length ds < length (without_trailing_zeros (ds ++ d ∷ es))
unfolding without_trailing_zeros
significant_long ds es d e =
    grind (arith, common_steps, reverse-append, append_assoc, length-reverse, drop_while_long)

zeros_count : (ds : List ℕ) → length ds ≡ length (without_trailing_zeros ds) + length (zeros_of ds)
zeros_count ds = grind (arith, (significant_and_zeros ds), length-append, length-reverse)

pub significant_shorter : (ds : List ℕ) → length (without_trailing_zeros ds) ≤ length ds
significant_shorter ds = omega (arith, zeros_count ds)

-- ---- trailing zeros only change a power of ten

pub digits_value-append : (v : ℕ) (ds es : List ℕ)
    → digits_value_after 10 v (ds ++ es) ≡ digits_value_after 10 (digits_value_after 10 v ds) es
digits_value-append v [] es = refl
digits_value-append v (d ∷ ds) es = digits_value-append (v * 10 + digit_value d) ds es

zeros_value : (v : ℕ) (zs : List ℕ) → HasOnly is_zero zs
    → digits_value_after 10 v (reverse zs) ≡ v * 10 ^ length zs
zeros_value v [] only = omega arith
zeros_value v (z ∷ zs) only = grind (
  arith,
  (reverse-append (z ∷ []) zs),
  digits_value-append,
  (zeros_value v zs only.1),
  (pow-suc 10 (length zs)),
  (mul_assoc v (10 ^ length zs) 10),
)

-- Each trailing zero multiplies the value by ten.
pub value_shifted : (ds : List ℕ) (z : ℕ) → length ds ≡ length (without_trailing_zeros ds) + z
    → decimal_value ds ≡ decimal_value (without_trailing_zeros ds) * 10 ^ z
value_shifted ds z count = grind (
  arith,
  zeros_count,
  (significant_and_zeros ds),
  digits_value-append,
  zeros_value,
  take_while-only,
)

product_shifted : (f : ℕ) (ds : List ℕ) → decimal_value ds * f
    ≡ decimal_value (without_trailing_zeros ds) * f * 10 ^ length (zeros_of ds)
product_shifted f ds = grind (arith, value_shifted, zeros_count, mul_right_comm)

-- A whole part stays a whole part, with the same value.
pub exact_fraction_kept : (f : ℕ) (ds : List ℕ) → is_exact_fraction f ds ≡ true
    → is_exact_fraction f (without_trailing_zeros ds) ≡ true
exact_fraction_kept f ds h =
    let by = 10 ^ length (zeros_of ds) in
    let kept = decimal_value (without_trailing_zeros ds) * f in
    let rest : kept * by % (10 ^ length (without_trailing_zeros ds) * by) ≡ 0 =
    grind (arith, common_steps, (product_shifted f ds), zeros_count, pow-add) in
    grind (
      arith,
      common_steps,
      mod-eq-zero_of_dvd,
      dvd_of_mul-dvd-mul_right,
      dvd_of_mod-eq-zero,
      one-le-pow,
      le-mul_of_pos_right,
      (product_shifted f ds),
      rest,
    )

pub amount_kept : (f : ℕ) (ds : List ℕ) → decimal_value ds * f / 10 ^ length ds
    ≡ decimal_value (without_trailing_zeros ds) * f / 10 ^ length (without_trailing_zeros ds)
amount_kept f ds =
    grind (arith, product_shifted, zeros_count, pow-add, mul-div-mul_right, one-le-pow)
