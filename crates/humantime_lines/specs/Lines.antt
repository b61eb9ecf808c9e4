-- The line of an offset in a text, which is its list of bytes.
use Rattle.std.specs.Prelude.{◌==◌, ◌+◌, ◌-◌, ◌≤◌, ℕ, List, [], Bool, Option, None, Some}
use Rattle.std.specs.Prelude.{count_by, drop, if◌then◌else◌, nat_lt, slice_get, take, unwrap_or}
use Rattle.std.specs.List.{after_last}
use Rattle.std.specs.Str.{IsCharBoundary, byte}
use Rattle.std.specs.Str.Lines.{lines}

-- Tests whether a byte ends a line.
abbrev pub is_line_feed : ℕ → Bool
is_line_feed b = b == byte "\n"

-- Tests whether a text has a line feed.
abbrev pub has_line_feed : List ℕ → Bool
has_line_feed text = nat_lt 0 (count_by is_line_feed text)

-- Returns the first line of a text, without its line feed and a carriage return before that.
abbrev pub first_line : List ℕ → List ℕ
first_line text = unwrap_or (slice_get (lines text) 0) []

-- Returns the number of the line of an offset, from 1, or `None` if the text has no line feed.
abbrev pub line_number : List ℕ → ℕ → Option ℕ
line_number text at =
    if has_line_feed text then Some (count_by is_line_feed (take at text) + 1) else None

-- Returns the line of an offset up to the offset.
abbrev pub line_before : List ℕ → ℕ → List ℕ
line_before text at = after_last is_line_feed (take at text)

-- Returns the line of an offset from the offset on.
abbrev pub line_after : List ℕ → ℕ → List ℕ
line_after text at = first_line (drop at text)

-- Returns the part that is in a range of the line in which the range starts.
abbrev pub line_part : List ℕ → ℕ → ℕ → List ℕ
line_part text start end = take (end - start) (line_after text start)

-- Returns what this line has after that part.
abbrev pub line_rest : List ℕ → ℕ → ℕ → List ℕ
line_rest text start end = drop (end - start) (line_after text start)

-- The offsets of a range are in order, and `char` boundaries of the text.
abbrev pub IsRangeIn : List ℕ → ℕ → ℕ → Type 0
IsRangeIn text start end = (start ≤ end) × IsCharBoundary text start × IsCharBoundary text end
