-- The position of an error in a document, and what is printed. A text is its bytes.
use Rattle.std.specs.Prelude.{◌≡◌, ◌==◌, ◌+◌, ◌++◌, ⊤, ℕ, List, [], Option, None, Some, chars, codes}
use Rattle.std.specs.Prelude.{count_by, decimal, not, string_bytes, unwrap_or}
use Rattle.std.specs.Str.{IsCharBoundary}
use Rattle.humantime_lines.specs.Escapes.{escaped}
use Rattle.humantime_lines.specs.Lines.{line_after, line_before, line_number}
use Rattle.humantime_lines.specs.MarkedLines.{marked_lines}
use Rattle.humantime_settings.specs.declared.error.SettingsError.{SettingsError}
use Rattle.humantime_settings.specs.declared.error.SettingsError.TheVariants.{At, OutOfMemory}
use Rattle.humantime_settings.specs.declared.error.SettingsError.TheVariants.{WithoutPosition}

-- The error is that memory runs out, or it has a position. This is where a character of the text
-- begins or the text ends, with the number of the line there, and this line in parts: up to the
-- position, what is wrong, and the rest.
abbrev pub IsErrorIn : List ℕ → SettingsError → Type 0
IsErrorIn text OutOfMemory = ⊤
IsErrorIn text (At offset line before part after message) =
    IsCharBoundary text offset × (line ≡ unwrap_or (line_number text offset) 1)
    × (string_bytes before ≡ line_before text offset)
    × (string_bytes part ++ string_bytes after ≡ line_after text offset)
IsErrorIn text (WithoutPosition message) = ⊥

-- The line number of an error that has a position.
abbrev pub line_of : SettingsError → Option ℕ
line_of (At offset line before part after message) = Some line
line_of _ = None

-- The columns of a line: its characters, but for U+FEFF.
abbrev pub columns : List ℕ → ℕ
columns line = count_by (λ c. not (c == 65279)) (chars line)

-- The column of an error that has a position, from 1.
abbrev pub column_of : SettingsError → Option ℕ
column_of (At offset line before part after message) = Some (columns (string_bytes before) + 1)
column_of _ = None

-- What an error says, without the position.
abbrev pub message_of : SettingsError → List ℕ
message_of OutOfMemory = codes "out of memory"
message_of (At offset line before part after message) = string_bytes message
message_of (WithoutPosition message) = string_bytes message

-- What is printed of an error: its position, the message, and the line with its caret line.
abbrev pub printed : SettingsError → List ℕ
printed (At offset line before part after message) =
    codes "line " ++ (decimal line
    ++ (codes ", column " ++ (decimal (columns (string_bytes before) + 1)
    ++ (codes ": " ++ (escaped (string_bytes message)
    ++ (codes "\n"
    ++ marked_lines [] (string_bytes before) (string_bytes part) (string_bytes after)))))))
printed error = escaped (message_of error)
