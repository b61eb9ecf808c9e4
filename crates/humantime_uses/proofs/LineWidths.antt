-- The most columns of a line of shown characters, and of a caret line below it.
use Rattle.std.proofs.Common.{◌≡◌, ◌≢◌, ◌+◌, ◌/◌, ◌%◌, ◌^◌, ◌<◌, ◌≤◌, ◌++◌, ◌∙◌, ℕ, zero, suc, true, false, List, [], ◌∷◌, IsUtf8, ap, append-nil, append_assoc, arith, chars, codes, encode_utf8, flat_map, inl, inr, length, length-append, max, refl, sum_by, sym}
use Rattle.std.proofs.Math.Nat.{pow-suc}
use Rattle.std.proofs.lemmas.Bool.Decides.{nat_tests}
use Rattle.std.proofs.lemmas.List.Splits.{slice_split_none}
use Rattle.std.specs.Char.{IsScalar}
use Rattle.std.specs.Fmt.{digit_glyph, digits, digits_onto}
use Rattle.std.specs.Str.{all_scalars}
use Rattle.std.proofs.Math.Utf8.{scalar}
use Rattle.std.proofs.lemmas.Bool.{cond_both, and_parts, cases_eq}
use Rattle.std.proofs.lemmas.List.Elements.{All-append, All-from_get_or, All-nil}
use Rattle.std.proofs.lemmas.List.Sums.{sum_by-cons, sum_by-le, sum_by-append}
use Rattle.std.proofs.lemmas.Str.{IsUtf8-encode, IsUtf8-nil, inside_one, IsUtf8-append, IsUtf8-from_ascii, chars-IsAscii, chars-append, chars-encodes, chars-nil, encode_ascii}
use Rattle.unicode_width.specs.Width.{char_width}
use Rattle.unicode_width.proofs.Rules.{width_or_zero-le}
use Rattle.humantime_lines.specs.Carets.{caret_line, columns, is_tab}
use Rattle.humantime_lines.specs.Escapes.{is_escaped, room, escaped_char}
use Rattle.humantime_uses.specs.CaretColumns.{column_after}
use Rattle.humantime_uses.proofs.CaretColumns.{column_after_tab, column_of_carets}
use Rattle.humantime_uses.proofs.Printable.{HasNoTab, IsAscii-printable, IsPrintable}
use Rattle.humantime_uses.proofs.Printable.{each_printable, is_printable, printable_append}
use Rattle.humantime_uses.proofs.Printable.{printable_no_tab}
use Rattle.humantime_uses.proofs.Widths.{str_width_within, widest}

-- A text is UTF-8, and adds at most so many columns to a text beside it.
record TakesAtMost (most : ℕ) (text : List ℕ) : Type 0 where
  utf8 : IsUtf8 text
  within : sum_by widest (chars text) ≤ most

-- A text has at most the columns that it takes.
columns_within : (most : ℕ) (text : List ℕ) → TakesAtMost most text → columns text ≤ most
columns_within most text takes = omega (arith, str_width_within (chars text), takes.within)

-- The empty text takes no column.
takes_none : TakesAtMost 0 []
takes_none = record { utf8 = IsUtf8-nil; within = rw chars-nil (omega arith) }

-- Two texts take at most the columns of both.
takes_both : (m n : ℕ) (xs ys : List ℕ) → TakesAtMost m xs → TakesAtMost n ys
    → TakesAtMost (m + n) (xs ++ ys)
takes_both m n xs ys first second = record {
  utf8 = IsUtf8-append xs ys first.utf8 second.utf8;
  within = rw (chars-append xs ys first.utf8, sum_by-append widest (chars xs))
      (omega (arith, first.within, second.within));
}

-- A printable byte takes at most one column.
widest_printable : (b : ℕ) → is_printable b ≡ true → widest b ≤ 1
unfolding char_width
widest_printable b pass = grind (arith, nat_tests)

-- A text is printable, and has at most so many bytes.
abbrev IsShort : ℕ → List ℕ → Type 0
IsShort most bs = IsPrintable bs × (length bs ≤ most)

-- A short text takes at most a column for each byte.
takes_short : (most : ℕ) (bs : List ℕ) → IsShort most bs → TakesAtMost most bs
takes_short most bs short =
    let ascii = IsAscii-printable bs short.0 in
    let narrow = each_printable (λ b. widest b ≤ 1) widest_printable bs short.0 in
    let sum = sum_by-le widest 1 bs narrow in
    record { utf8 = IsUtf8-from_ascii bs ascii; within = rw (chars-IsAscii bs ascii) (omega arith) }

-- A number below a power of 16 has at most as many hexadecimal digits as the exponent says.
hex_digits : (k j n : ℕ) (acc : List ℕ) → n < 16 ^ suc j → IsPrintable acc
    → IsShort (length acc + suc j) (digits_onto k 16 false n acc)
hex_digits zero j n acc below pass = (pass, omega arith)
hex_digits (suc k) zero n acc below pass = grind (arith, nat_tests)
hex_digits (suc k) (suc j) n acc below pass =
    let next : n / 16 < 16 ^ suc j = omega (arith, pow-suc 16 (suc j)) in
    grind (arith, nat_tests, hex_digits k j (n / 16) (digit_glyph false (n % 16) ∷ acc) next)

-- A number below 0x10000 has at most four hexadecimal digits.
four_digits : (c : ℕ) → c < 0x10000 → IsShort 4 (digits 16 false c)
unfolding digits
four_digits c below = hex_digits 64 3 c [] (omega arith) refl

-- Returns the escape of a character.
abbrev escape : ℕ → List ℕ
escape c = codes "\\u{" ++ (digits 16 false c ++ codes "}")

-- An escape has at most eight bytes, all printable.
escape_short : (c : ℕ) → is_escaped c ≡ true → IsShort 8 (escape c)
escape_short c hidden =
    let below : c < 0x10000 = grind (arith, nat_tests) in
    let ds = four_digits c below in
    let end = printable_append (digits 16 false c) (codes "}") ds.0 refl in
    let size = length-append (digits 16 false c) (codes "}") in
    (end, omega (arith, ds.1))

-- A shown character has no tab, unless it is one.
shown_no_tab : (c : ℕ) → c ≢ 9 → HasNoTab (escaped_char c)
shown_no_tab c other =
    let bs = encode_utf8 c in
    let P = λ (b : ℕ). is_tab b ≡ false in
    let byte = λ (k : ℕ). inside_one c [] bs k (sym (append-nil bs)) in
    cond_both (is_escaped c) (escape c) bs HasNoTab
    (λ hidden. printable_no_tab (escape c) (escape_short c hidden).0)
    (λ _. All-from_get_or P bs 0 (λ k inside. grind (arith, nat_tests, byte k inside)))

-- A character takes at most its room.
widest_room : (c : ℕ) → widest c ≤ room c
widest_room c = grind (arith, width_or_zero-le false c)

-- A shown character takes at most its room.
shown_takes : (c : ℕ) → IsScalar c → TakesAtMost (room c) (escaped_char c)
shown_takes c scalar =
    let bs = encode_utf8 c in
    let whole = ap chars (sym (append-nil bs)) in
    let alone : chars bs ≡ c ∷ [] = whole ∙ chars-encodes (c ∷ []) (rw scalar) in
    cond_both (is_escaped c) (escape c) bs (TakesAtMost (room c))
    (λ hidden. rw hidden (takes_short 8 (escape c) (escape_short c hidden)))
    (λ _. record {
      utf8 = IsUtf8-encode c scalar;
      within = rw alone (omega (arith, widest_room c));
    })

-- Shown characters take at most their room.
all_takes : (cs : List ℕ) → all_scalars cs ≡ true
    → TakesAtMost (sum_by room cs) (flat_map escaped_char cs)
all_takes [] scalars = takes_none
all_takes (c ∷ cs) scalars =
    let parts = and_parts (scalar c) (all_scalars cs) scalars in
    let first = shown_takes c parts.0 in
    let rest = all_takes cs parts.1 in
    rw (sum_by-cons room)
    (takes_both (room c) (sum_by room cs) (escaped_char c) (flat_map escaped_char cs) first rest)

module _ (stop : ℕ → ℕ) (near : (x : ℕ) → stop x ≤ x + 8) where
  -- Shown characters after a piece lead at most as far as the piece and their room.
  after_piece : (column most : ℕ) (piece cs : List ℕ)
      → TakesAtMost most piece → HasNoTab piece → all_scalars cs ≡ true
      → column_after stop column
      (piece ++ flat_map escaped_char cs) ≤ column + most + sum_by room cs
  after_piece column most piece [] takes no_tab scalars =
      rw (append-nil, slice_split_none is_tab piece no_tab)
      (omega (arith, columns_within most piece takes))
  after_piece column most piece (c ∷ cs) takes no_tab scalars =
      let parts = and_parts (scalar c) (all_scalars cs) scalars in
      let end = column + columns piece in
      elim (cases_eq c 9) [
        | inl same ↦
            let rest = after_piece (stop end) 0 [] cs takes_none (All-nil _) parts.1 in
            let tab = column_after_tab stop column piece (flat_map escaped_char cs) no_tab in
            rw (sum_by-cons room, same, encode_ascii 9 (omega arith), tab)
            (omega (arith, rest, near end, columns_within most piece takes))
        | inr other ↦
            let grown = piece ++ escaped_char c in
            let more =
            takes_both most (room c) piece (escaped_char c) takes (shown_takes c parts.0) in
            let last = shown_no_tab c other in
            let none = All-append (λ b. is_tab b ≡ false) piece (escaped_char c) no_tab last in
            let rest = after_piece column (most + room c) grown cs more none parts.1 in
            rw (← append_assoc piece (escaped_char c), sum_by-cons room) (omega (arith, rest))
      ]

  -- Shown characters lead at most as far as their room.
  pub column_within : (column : ℕ) (cs : List ℕ) → all_scalars cs ≡ true
      → column_after stop column (flat_map escaped_char cs) ≤ column + sum_by room cs
  column_within column cs scalars =
      omega (arith, after_piece column 0 [] cs takes_none (All-nil _) scalars)

  -- A caret line leads at most as far as the room of its line, and of its part or one caret.
  pub caret_line_within : (column : ℕ) (before part : List ℕ)
      → all_scalars before ≡ true → all_scalars part ≡ true
      → column_after stop column
      (caret_line (flat_map escaped_char before) (flat_map escaped_char part))
      ≤ column + sum_by room before + max (sum_by room part) 1
  caret_line_within column before part scalars others =
      let line = flat_map escaped_char before in
      let most = columns_within _ _ (all_takes part others) in
      let carets =
      column_of_carets stop column (max (columns (flat_map escaped_char part)) 1) line in
      omega (arith, most, carets, column_within column before scalars)
