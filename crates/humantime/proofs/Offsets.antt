-- Offsets in a text, the characters at them, and the ends of a text.
use Rattle.humantime.specs.Characters.{begins, drop_while, take_while, is_letter, is_whitespace, is_digit, byte_length, offset_of}
use Rattle.humantime.specs.DurationErrors.{IsCharStartIn, may_follow_span}
use Rattle.humantime.specs.PrivateFunctions.{after_one_whitespace, whitespace_len}
use Rattle.humantime.specs.PrivateTypes.{IsTail}
use Rattle.std.proofs.Common.{◌≡◌, ◌<◌, ◌≤◌, ◌+◌, ℕ, List, [], ◌∷◌, ◌++◌, length, get_or, drop, ap, sym, ◌∙◌, arith, length-drop, IsUtf8, IsCharBoundary, chars, encode_utf8, encode_utf8_all, Bool, true, false, ◌≢◌, ◌-◌, take, ◌==◌, ◌&&◌, ◌||◌, nat_lt, ne_eqb, get_or-drop, take-append-drop, drop-drop}
use Rattle.std.proofs.lemmas.Bool.{cases_lt}
use Rattle.std.proofs.lemmas.Bool.Decides.{nat_tests}
use Rattle.std.proofs.lemmas.Grind.{common_steps}
use Rattle.std.proofs.lemmas.List.{append_cancel_right}
use Rattle.std.proofs.lemmas.Str.{IsUtf8-drop, IsCharBoundary-past_char, drop_past_char, chars_past_char, byte_from_char, char_from_byte, len_utf8_ascii, len_utf8_bounds, encodes-chars, encode_same, IsCharBoundary-start, IsUtf8-take, IsCharBoundary-from_drop, chars-append, chars-nil}
use Rattle.std.specs.Char.{is_ascii_alphabetic, is_ascii_digit, len_utf8}
use Rattle.std.proofs.Math.Utf8.{encode}
use Rattle.humantime.proofs.Characters.{ascii_whitespace, digit_in_number, digit_not_whitespace, letter_not_whitespace, whitespace_in_number, take_while-drop_while}

-- ==== Offsets in a text, and the characters at them.

-- The character at an offset, and the offset after it.
pub record IsCharAt (text : List ℕ) (at char next : ℕ) : Type 0 where
  pub bytes : drop at text ≡ encode_utf8 char ++ drop next text
  pub ahead : chars (drop at text) ≡ char ∷ chars (drop next text)
  pub place : IsCharBoundary text next
  pub long : next ≡ at + len_utf8 char
  pub ascii : get_or text at 0 < 128 → char ≡ get_or text at 0
  pub wide : 128 ≤ get_or text at 0 → 128 ≤ char

pub char_at : (text : List ℕ) (at : ℕ) → IsUtf8 text → IsCharStartIn text at
    → (char : ℕ) × IsCharAt text at char (at + len_utf8 char)
char_at text at u here =
    by (chars (drop at text)) (encodes-chars (drop at text) (IsUtf8-drop text at u here.1))
  where
    by : (cs : List ℕ) → encode_utf8_all cs ≡ drop at text
        → (char : ℕ) × IsCharAt text at char (at + len_utf8 char)
    by [] e = absurd (omega (arith, ap length e, length-drop at text, here.0))
    by (c ∷ cs) e =
        let rest = drop at text in
        let utf8 = IsUtf8-drop text at u here.1 in
        let after : drop (at + len_utf8 c) text ≡ encode_utf8_all cs =
        drop_past_char text (encode_utf8_all cs) at c (sym e) in
        let bytes : rest ≡ encode_utf8 c ++ drop (at + len_utf8 c) text =
        sym e ∙ ap (λ (x : List ℕ). encode_utf8 c ++ x) (sym after) in
        let ahead = chars_past_char rest (drop (at + len_utf8 c) text) c utf8 bytes in
        let place = IsCharBoundary-past_char text (encode_utf8_all cs) at c (omega (arith, here.0)) utf8 (sym e) in
        let from_byte = char_from_byte rest (encode_utf8_all cs) c (sym e) in
        let from_char = byte_from_char rest (encode_utf8_all cs) c (sym e) in (
          c,
          grind (
            arith,
            bytes,
            ahead,
            place,
            from_byte,
            from_char,
            (cases_lt c 128),
            (get_or-drop at text 0 0),
            (length-drop at text),
          ),
        )

-- There is a character at an offset at which one begins.
pub chars_at : (text : List ℕ) (at : ℕ) → IsUtf8 text → IsCharStartIn text at
    → chars (drop at text) ≡ get_or (chars (drop at text)) 0 0 ∷ drop 1 (chars (drop at text))
chars_at text at u here = grind (arith, common_steps, (char_at text at u here))

-- An ASCII byte is a character.
pub ascii_at : (text : List ℕ) (at : ℕ) → IsUtf8 text → IsCharStartIn text at
    → get_or text at 0 < 128 → IsCharAt text at (get_or text at 0) (at + 1)
ascii_at text at u here small = grind (arith, common_steps, nat_tests, char_at, len_utf8_ascii)

-- There is a digit at an offset if and only if its byte is one.
pub digit_at : (text : List ℕ) (at : ℕ) → IsUtf8 text → IsCharStartIn text at
    → is_ascii_digit (get_or text at 0) ≡ begins is_digit (chars (drop at text))
unfolding is_digit
digit_at text at u here =
    grind (arith, nat_tests, (char_at text at u here), (cases_lt (get_or text at 0) 128))

-- Whitespace at an offset is a character of its length.
pub whitespace_over : (text : List ℕ) (at : ℕ) → IsUtf8 text → IsCharStartIn text at
    → 0 < whitespace_len (chars (drop at text)) → (c : ℕ) × (is_whitespace c ≡ true)
    × IsCharAt text at c (at + whitespace_len (chars (drop at text)))
whitespace_over text at u here some = let c = char_at text at u here in grind arith

pub no_whitespace : (cs : List ℕ) → ¬ (0 < whitespace_len cs) → begins is_whitespace cs ≡ false
no_whitespace cs none = grind (arith, len_utf8_bounds)

-- A text that begins with a digit has no leading whitespace.
pub digit_stays : (cs : List ℕ) → begins is_digit cs ≡ true → cs ≡ drop_while is_whitespace cs
digit_stays cs d = grind (arith, digit_not_whitespace)

-- Tests whether two bytes are the micro sign or the Greek letter mu.
abbrev pub is_mu_pair : ℕ → ℕ → Bool
is_mu_pair first second = (first == 0xc2 && second == 0xb5) || (first == 0xce && second == 0xbc)

-- Passing one of the two letters that are not ASCII.
pub mu_over : (text : List ℕ) (at : ℕ) → IsUtf8 text → IsCharBoundary text at → at + 1 < length text
    → is_mu_pair (get_or text at 0) (get_or text (at + 1) 0) ≡ true
    → (c : ℕ) × (is_letter c ≡ true) × IsCharAt text at c (at + 2)
unfolding is_letter encode
mu_over text at u place some pair =
    let d = char_at text at u (omega arith, place) in
    let after = drop (at + len_utf8 d.0) text in
    grind (
      arith,
      common_steps,
      nat_tests,
      (encode_same d.0 181 after (drop (at + 2) text)),
      (encode_same d.0 956 after (drop (at + 2) text)),
      d,
    )

-- Dropping the letters from an offset on drops those from the next one on.
abbrev pub DropsLetter : List ℕ → ℕ → ℕ → Type 0
DropsLetter text at next =
    (drop_while is_letter (chars (drop at text)) ≡ drop_while is_letter (chars (drop next text)))
    × IsCharBoundary text next

-- Tests whether there is one of the two letters that are not ASCII at an offset.
abbrev pub has_mu : List ℕ → ℕ → Bool
has_mu text at =
    nat_lt (at + 1) (length text) && is_mu_pair (get_or text at 0) (get_or text (at + 1) 0)

-- There is an ASCII letter at an offset, one of the two others, or none. Each conclusion begins
-- with the test of a byte, by which `grind` finds the lemma: found by the letters that are dropped,
-- it would be applied to its own result again and again.
pub ascii_letter : (text : List ℕ) (at : ℕ) → IsUtf8 text → IsCharStartIn text at
    → is_ascii_alphabetic (get_or text at 0) ≡ true
    → (is_ascii_alphabetic (get_or text at 0) ≡ true) × DropsLetter text at (at + 1)
unfolding is_letter
ascii_letter text at u here letter =
    grind (arith, common_steps, nat_tests, (ascii_at text at u here))

pub mu_letter : (text : List ℕ) (at : ℕ) → IsUtf8 text → IsCharStartIn text at
    → has_mu text at ≡ true
    → (128 ≤ get_or text (at + 1) 0) × DropsLetter text at (at + 2)
mu_letter text at u here mu =
    grind (arith, common_steps, nat_tests, (mu_over text at u here.1))

pub no_letter : (text : List ℕ) (at : ℕ) → IsUtf8 text → IsCharStartIn text at
    → is_ascii_alphabetic (get_or text at 0) ≡ false → has_mu text at ≡ false
    → (is_ascii_alphabetic (get_or text at 0) ≡ false)
    × (drop_while is_letter (chars (drop at text)) ≡ chars (drop at text))
unfolding is_letter encode
no_letter text at u here other none =
    grind (arith, common_steps, nat_tests, (char_at text at u here))

-- A mu is not whitespace.
pub no_whitespace_at_mu : (text : List ℕ) (at : ℕ) → IsUtf8 text → IsCharBoundary text at
    → at + 1 < length text
    → is_mu_pair (get_or text at 0) (get_or text (at + 1) 0) ≡ true
    → whitespace_len (chars (drop at text)) ≡ 0
no_whitespace_at_mu text at u place some pair =
    grind (arith, common_steps, nat_tests, letter_not_whitespace, mu_over)

-- Whitespace ends a span.
pub whitespace_ends : (text : List ℕ) (at : ℕ) → IsUtf8 text → 0 < length text
    → 0 < whitespace_len (chars text) → at ≡ 0 + whitespace_len (chars text)
    → IsCharBoundary text at × (may_follow_span (chars text) ≡ true)
    × (chars (drop at text) ≡ after_one_whitespace (chars text))
whitespace_ends text at u some white n =
    grind (arith, whitespace_in_number, (whitespace_over text 0 u (some, IsCharBoundary-start text u)))

-- A character begins after leading whitespace.
pub whitespace_boundary : (text : List ℕ) → IsUtf8 text → 0 < length text
    → 0 < whitespace_len (chars text)
    → (0 < whitespace_len (chars text)) × IsCharBoundary text (whitespace_len (chars text))
whitespace_boundary text u some white = (white, (whitespace_ends text _ u some white (omega arith)).0)

-- A digit ends a span.
pub digit_ends : (cs : List ℕ) → begins is_digit cs ≡ true
    → (begins is_digit cs ≡ true) × (may_follow_span cs ≡ true) × (after_one_whitespace cs ≡ cs)
digit_ends cs d = grind (arith, common_steps, digit_in_number, digit_not_whitespace)

-- A space ends a span, and is one byte.
pub space_ends : (text : List ℕ) → IsUtf8 text → 0 < length text → get_or text 0 0 ≡ 32
    → IsCharBoundary text 1 × (may_follow_span (chars text) ≡ true)
    × (chars (drop 1 text) ≡ after_one_whitespace (chars text))
space_ends text u some e =
    grind (
      arith,
      ascii_whitespace,
      whitespace_in_number,
      (ascii_at text 0 u (some, IsCharBoundary-start text u)),
    )

-- ==== The end parts of a text, as bytes.

pub whole_tail : (text : List ℕ) → IsUtf8 text → IsTail text text
whole_tail text u = grind (arith, common_steps)

pub slice_tail : (text rest : List ℕ) (at : ℕ) → IsUtf8 text → IsUtf8 rest → rest ≡ drop at text
    → length rest + at ≡ length text → IsTail text rest
slice_tail text rest at u v e n = record {
  shorter = omega (arith, n);
  ends = e ∙ ap (λ (k : ℕ). drop k text) (omega (arith, n));
  rest_utf8 = v;
  text_utf8 = u;
}

pub tail_tail : (text middle rest : List ℕ) → IsTail text middle → IsTail middle rest
    → IsTail text rest
tail_tail text middle rest t r = record {
  shorter = omega (arith, t.shorter, r.shorter);
  ends = grind (
    arith,
    t.ends,
    r.ends,
    t.shorter,
    r.shorter,
    (drop-drop (length middle - length rest) (length text - length middle) text),
  );
  rest_utf8 = r.rest_utf8;
  text_utf8 = t.text_utf8;
}

pub tail_boundary : (text rest : List ℕ) → IsTail text rest
    → IsCharBoundary text (length text - length rest)
tail_boundary text rest t =
    IsCharBoundary-from_drop text (length text - length rest) (omega arith)
    (rw (← t.ends) (t.rest_utf8))

pub tail_offset : (text rest : List ℕ) → IsTail text rest
    → length text - length rest ≡ offset_of (chars text) (chars rest)
tail_offset text rest t = grind (arith, encodes-chars)

-- The text before an offset, if the longest prefix that passes a test ends there.
pub front_is : (p : ℕ → Bool) (text : List ℕ) (at : ℕ) → IsUtf8 text → IsCharBoundary text at
    → chars (drop at text) ≡ drop_while p (chars text)
    → chars (take at text) ≡ take_while p (chars text)
front_is p text at u place after =
    append_cancel_right _ _ (drop_while p (chars text))
    (grind (
      arith,
      after,
      (chars-append (take at text) (drop at text) (IsUtf8-take text at u place)),
      (take-append-drop at text),
      (take_while-drop_while p (chars text)),
    ))

-- A text without characters has no bytes, and one without bytes no characters.
pub some_chars : (bs : List ℕ) → IsUtf8 bs → length bs ≢ 0 → chars bs ≢ []
some_chars bs u n e = n (grind (arith, encodes-chars, ap byte_length e))

pub no_bytes : (bs : List ℕ) → length bs ≡ 0 → chars bs ≡ []
no_bytes bs h = grind (arith, common_steps, chars-nil)

pub no_chars_at : (text : List ℕ) (at : ℕ) → length text ≤ at → chars (drop at text) ≡ []
no_chars_at text at end = no_bytes (drop at text) (omega (arith, length-drop at text))

-- ==== What the functions that scan a text need.

-- The rest of a text from an offset on, and a text without bytes.
pub ruleset rests =
    (slice_tail, whole_tail, no_bytes, some_chars, no_chars_at, IsCharBoundary-start)

-- The first character of a text.
pub ruleset first =
    (rests, char_at, digit_at, digit_stays, cases_lt, ne_eqb, common_steps, nat_tests)

-- The letters from an offset on.
pub ruleset letters = (
  ascii_letter,
  mu_letter,
  no_letter,
  front_is,
  slice_tail,
  no_chars_at,
  IsCharBoundary-start,
  nat_tests,
)

-- Whitespace at an offset.
pub ruleset whitespace_at =
    (ascii_at, ascii_whitespace, no_whitespace_at_mu, common_steps, nat_tests)

-- What ends a span.
pub ruleset span_ends = (
  rests,
  space_ends,
  whitespace_ends,
  whitespace_boundary,
  digit_ends,
  len_utf8_bounds,
  common_steps,
)

-- The offset of a rest in its text, in bytes.
pub ruleset offsets = (some_chars, no_bytes, tail_tail, whole_tail, common_steps)
