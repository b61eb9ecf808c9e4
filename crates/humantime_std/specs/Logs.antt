-- The timestamp at the front of a line of a log. A line is its list of bytes.
use Rattle.std.specs.Prelude.{ℕ, List, ◌++◌, take, drop}
use Rattle.std.specs.Char.{is_ascii_whitespace}
use Rattle.std.specs.List.{before_first, after_first}

-- Returns what is parsed: the first 11 bytes, which are a date and the byte after it, and what is
-- before the next ASCII whitespace.
abbrev pub leading_stamp : List ℕ → List ℕ
leading_stamp line = take 11 line ++ before_first is_ascii_whitespace (drop 11 line)

-- Returns what follows that whitespace character, or nothing if there is none.
abbrev pub after_stamp : List ℕ → List ℕ
after_stamp line = after_first is_ascii_whitespace (drop 11 line)
