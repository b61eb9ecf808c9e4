-- What the values of private types hold: the digits of a fraction, the number of a span, and the
-- rest of a text.
use Rattle.std.specs.Prelude.{◌≡◌, ℕ, List, length, Option, option_map, chars, ◌≤◌, ◌<◌, ◌^◌, ◌-◌, drop, IsUtf8}
use Rattle.std.specs.Borrow.{Bor}
use Rattle.humantime.specs.declared.duration.digits.Fraction.{Fraction}
use Rattle.humantime.specs.Characters.{decimal_value, digits, without_trailing_zeros, max_fraction_digits}

-- Returns the fraction with these digits: the value and the number of its digits without trailing
-- zeros, and the number of all digits.
abbrev pub fraction_with : List ℕ → Fraction
fraction_with ds = record {
  significand = decimal_value (without_trailing_zeros ds);
  exponent = length (without_trailing_zeros ds);
  len = length ds;
}

-- The fraction has these digits, at most 19 of them before the trailing zeros.
pub record HasDigits (f : Fraction) (ds : List ℕ) : Type 0 where
  pub is : f ≡ fraction_with ds
  pub few : f.exponent ≤ max_fraction_digits
  pub fits : f.significand < 10 ^ f.exponent

-- A fraction of the code, and the characters of its text.
pub record FractionView : Type 0 where
  pub fraction : Fraction
  pub text : List ℕ

-- Returns the view of a fraction and its text, as the code returns them.
abbrev pub fraction_view : Fraction × Bor (List ℕ) → FractionView
fraction_view f = record { fraction = f.0; text = chars f.1.now }

-- The value is that of the digits of the text, and the fraction, if any, is the one with the digits
-- of its text.
pub record IsNumberRead (text : List ℕ) (value : ℕ)
    (fraction : Option (Fraction × Bor (List ℕ))) : Type 0 where
  pub value_is : value ≡ decimal_value (digits (chars text))
  pub fraction_is : option_map (λ f. (fraction_view f).fraction) fraction
      ≡ option_map (λ f. fraction_with (digits (fraction_view f).text)) fraction

-- The text ends in the bytes of the rest, which is valid UTF-8.
pub record IsTail (text rest : List ℕ) : Type 0 where
  pub shorter : length rest ≤ length text
  pub ends : rest ≡ drop (length text - length rest) text
  pub rest_utf8 : IsUtf8 rest
  pub text_utf8 : IsUtf8 text
