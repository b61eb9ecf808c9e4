-- Characters that are written as escapes, and the columns of a line that is printed. A text is its
-- bytes, and a character its number.
use Rattle.std.specs.Prelude.{◌==◌, ◌&&◌, ◌||◌, ◌++◌, ℕ, List, Bool, false}
use Rattle.std.specs.Prelude.{chars, codes, flat_map, if◌then◌else◌, max, not, unwrap_or}
use Rattle.std.specs.Char.{encode_utf8, is_control}
use Rattle.std.specs.Fmt.{digits}
use Rattle.std.specs.Int.{is_in_range}
use Rattle.std.specs.Str.{byte}
use Rattle.unicode_width.specs.Width.{char_width}

-- Tests whether a character controls the direction of text, or ends a line or a paragraph.
abbrev pub is_bidi_or_separator : ℕ → Bool
is_bidi_or_separator c =
    (c == 0x61C) || is_in_range 0x200E 0x200F c
    || is_in_range 0x2028 0x202E c || is_in_range 0x2066 0x2069 c

-- Tests whether a character is written as an escape: each control character but the tab, and those
-- above.
abbrev pub is_escaped : ℕ → Bool
is_escaped c = (is_control c && not (c == byte "\t")) || is_bidi_or_separator c

-- Returns the bytes of a character as it is written: its escape, if it has one, or its own.
abbrev pub escaped_char : ℕ → List ℕ
escaped_char c =
    if is_escaped c then codes "\\u{" ++ (digits 16 false c ++ codes "}") else encode_utf8 c

-- Returns characters as they are written.
abbrev pub escaped_chars : List ℕ → List ℕ
escaped_chars line = flat_map escaped_char line

-- Returns a text as it is written.
abbrev pub escaped : List ℕ → List ℕ
escaped text = escaped_chars (chars text)

-- Returns the room that a character needs on a line, the most columns that it can take: eight for a
-- tab or an escape, else those of `unicode_width`, but at least one.
abbrev pub room : ℕ → ℕ
room c =
    if is_escaped c || (c == byte "\t") then 8 else max (unwrap_or (char_width false c) 1) 1
