-- Lists of characters, and the characters of durations.
use Rattle.std.specs.Prelude.{ℕ, Bool, false, List, [], ◌∷◌, if◌then◌else◌, ◌-◌, ◌||◌, ◌==◌, length, encode_utf8_all, filter, codes, reverse}
use Rattle.std.specs.Str.Parse.{digits_value}
use Rattle.std.specs.Char.{char_set_contains, is_ascii_digit, is_ascii_alphabetic}
use Rattle.std.specs.Str.{byte}

-- ==== Definitions that durations and timestamps share. A text is the list of its characters, or of
-- its bytes.

-- Returns the longest prefix of a text whose characters all pass a test.
abbrev pub take_while : (ℕ → Bool) → List ℕ → List ℕ
take_while p [] = []
take_while p (c ∷ cs) = if p c then c ∷ take_while p cs else []

-- Returns what follows the longest prefix of a text whose characters all pass a test.
abbrev pub drop_while : (ℕ → Bool) → List ℕ → List ℕ
drop_while p [] = []
drop_while p (c ∷ cs) = if p c then drop_while p cs else c ∷ cs

-- Tests whether a text begins with a character that passes a test.
abbrev pub begins : (ℕ → Bool) → List ℕ → Bool
begins p [] = false
begins p (c ∷ cs) = p c

-- Tests whether a text ends with a character that passes a test.
abbrev pub ends : (ℕ → Bool) → List ℕ → Bool
ends p [] = false
ends p (c ∷ []) = p c
ends p (c ∷ d ∷ cs) = ends p (d ∷ cs)

-- Returns the value of decimal digits, or 0 if there are none.
abbrev pub decimal_value : List ℕ → ℕ
decimal_value ds = digits_value 10 ds

-- ==== The classes of characters in the text of a duration, which is its list of characters.

-- The 25 whitespace characters of Unicode.
unfoldable pub whitespace_chars : List ℕ
whitespace_chars =
    0x9 ∷ 0xa ∷ 0xb ∷ 0xc ∷ 0xd ∷ 0x20 ∷ 0x85 ∷ 0xa0 ∷ 0x1680 ∷ 0x2000 ∷ 0x2001 ∷ 0x2002 ∷ 0x2003
    ∷ 0x2004 ∷ 0x2005 ∷ 0x2006
    ∷ 0x2007 ∷ 0x2008 ∷ 0x2009 ∷ 0x200a ∷ 0x2028 ∷ 0x2029 ∷ 0x202f ∷ 0x205f ∷ 0x3000 ∷ []

-- The micro sign, U+00B5.
abbrev pub micro_sign : ℕ
micro_sign = 0xb5

-- The Greek letter mu, U+03BC.
abbrev pub greek_mu : ℕ
greek_mu = 0x3bc

-- The UTF-8 bytes of `µs`, with the micro sign.
abbrev pub micro_suffix : List ℕ
micro_suffix = 0xc2 ∷ 0xb5 ∷ codes "s"

-- Tests whether a character is whitespace.
unfoldable pub is_whitespace : ℕ → Bool
is_whitespace c = char_set_contains whitespace_chars c

-- Tests whether a character is one of `0` to `9`.
unfoldable pub is_digit : ℕ → Bool
is_digit c = is_ascii_digit c

-- Tests whether a character is an ASCII letter, the micro sign or Greek mu.
unfoldable pub is_letter : ℕ → Bool
is_letter c = is_ascii_alphabetic c || c == micro_sign || c == greek_mu

-- Tests whether a character is `.`.
unfoldable pub is_point : ℕ → Bool
is_point c = c == byte "."

-- The text `0`.
abbrev pub bare_zero : List ℕ
bare_zero = codes "0"

-- Tests whether a character can be part of a number: a digit or whitespace.
abbrev pub in_number : ℕ → Bool
in_number c = is_digit c || is_whitespace c

-- Returns the digits of a text, without its other characters.
abbrev pub digits : List ℕ → List ℕ
digits cs = filter is_digit cs

-- Removes the trailing zeros of a list of digits.
unfoldable pub without_trailing_zeros : List ℕ → List ℕ
without_trailing_zeros ds = reverse (drop_while (λ d. d == byte "0") (reverse ds))

-- The maximum number of digits in a fraction, without its trailing zeros.
abbrev pub max_fraction_digits : ℕ
max_fraction_digits = 19

-- The maximum of a `u64`, 2^64 - 1.
abbrev pub u64_max : ℕ
u64_max = 18446744073709551615

-- Returns the length of a text in bytes of UTF-8.
abbrev pub byte_length : List ℕ → ℕ
byte_length cs = length (encode_utf8_all cs)

-- Returns the byte offset at which `rest`, a suffix of the text, begins.
abbrev pub offset_of : List ℕ → List ℕ → ℕ
offset_of text rest = byte_length text - byte_length rest
