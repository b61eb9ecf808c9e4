-- The carets under a part of a line. A text is its list of bytes.
use Rattle.std.specs.Prelude.{◌==◌, ◌++◌, ℕ, List, Bool, false, chars, map, max, replicate}
use Rattle.std.specs.List.{join_with_byte, slice_split}
use Rattle.std.specs.Str.{byte}
use Rattle.unicode_width.specs.Width.{str_width}

-- Returns the number of columns of a text without tabs.
abbrev pub columns : List ℕ → ℕ
columns text = str_width false (chars text)

-- Tests whether a byte is a tab.
abbrev pub is_tab : ℕ → Bool
is_tab b = b == byte "\t"

-- Returns a space for each column of a text without tabs.
abbrev pub spaces : List ℕ → List ℕ
spaces text = replicate (columns text) (byte " ")

-- Returns what stands under the line up to a part: its tabs, and between them spaces.
abbrev pub blanks : List ℕ → List ℕ
blanks before = join_with_byte (byte "\t") (map spaces (slice_split is_tab before))

-- Returns the caret line of a part: what stands under the line up to it, and a caret for each
-- column of the part, at least one.
abbrev pub caret_line : List ℕ → List ℕ → List ℕ
caret_line before part = blanks before ++ replicate (max (columns part) 1) (byte "^")
