-- Where the carets under a line are, as one sees them in a terminal. A text is its list of bytes.
use Rattle.std.specs.Prelude.{◌≡◌, ◌≢◌, ◌==◌, ◌+◌, ◌-◌, ◌≤◌, ◌++◌, ◌⊎◌, ℕ, List, [], ◌∷◌, All}
use Rattle.std.specs.Prelude.{chars, codes, count_by, decimal, drop, if◌then◌else◌, max, nat_lt}
use Rattle.std.specs.Prelude.{replicate, slice_get, take, unwrap_or}
use Rattle.std.specs.List.{after_last, slice_split}
use Rattle.std.specs.Str.{byte}
use Rattle.std.specs.Str.Lines.{lines}
use Rattle.humantime.specs.declared.date.error.TimestampError.{TimestampError}
use Rattle.humantime_lines.specs.Carets.{columns}
use Rattle.humantime_std.specs.declared.located.Located.{Located}
use Rattle.humantime_lines.specs.Escapes.{escaped, escaped_char}

-- Returns the column after pieces of a line with a tab between each two. The line begins in a
-- column, and a tab leads from a column to that of the next tab stop.
abbrev pub column_of_pieces : (ℕ → ℕ) → ℕ → List (List ℕ) → ℕ
column_of_pieces stop column [] = column
column_of_pieces stop column (piece ∷ []) = column + columns piece
column_of_pieces stop column (piece ∷ next ∷ pieces) =
    column_of_pieces stop (stop (column + columns piece)) (next ∷ pieces)

-- Returns the column after a text.
abbrev pub column_after : (ℕ → ℕ) → ℕ → List ℕ → ℕ
column_after stop column text =
    column_of_pieces stop column (slice_split (λ b. b == byte "\t") text)

-- The carets stand under the part of a line that comes after `before`: only spaces and tabs come
-- before them, they begin in the column in which the part begins, wherever the line begins and the
-- tab stops are, and there is one for each column of the part, at least one.
pub record StandsUnder (before part carets : List ℕ) : Type 0 where
  pub blanks : List ℕ
  pub whole : carets ≡ blanks ++ replicate (max (columns part) 1) (byte "^")
  pub blank : All (λ b. (b ≡ byte " ") ⊎ (b ≡ byte "\t")) blanks
  pub begins : (stop : ℕ → ℕ) (column : ℕ)
      → column_after stop column blanks ≡ column_after stop column before

-- A text takes at most 78 columns wherever it begins, if a tab leads at most eight columns on.
abbrev pub IsNarrow : List ℕ → Type 0
IsNarrow text = (stop : ℕ → ℕ) (column : ℕ) → ((x : ℕ) → stop x ≤ x + 8)
    → column_after stop column text ≤ column + 78

-- The end of a text is shown, after dots if it is not all.
abbrev pub ShowsEnd : List ℕ → List ℕ → Type 0
ShowsEnd text seen =
    (seen ≡ text) ⊎ ((cut kept : List ℕ)
    × (cut ≢ []) × (text ≡ cut ++ kept) × (seen ≡ codes "..." ++ kept))

-- The start of a text is shown, and after it dots if it is not all.
abbrev pub ShowsStart : List ℕ → List ℕ → Type 0
ShowsStart text seen =
    (seen ≡ text) ⊎ ((kept cut : List ℕ)
    × (cut ≢ []) × (text ≡ kept ++ cut) × (seen ≡ kept ++ codes "..."))

-- A line is shown, which has a part that is wrong after `before`, and before `after`, and carets
-- under this part. Of the line with its escapes an end of what is before the part is shown, and a
-- start of the rest; if the part is not empty, its first character is shown. Neither the line nor
-- the carets take over 78 columns.
pub record ShowsLine (before part after line carets : List ℕ) : Type 0 where
  pub front : List ℕ
  pub wrong : List ℕ
  pub back : List ℕ
  pub whole : line ≡ front ++ (wrong ++ back)
  pub end : ShowsEnd (escaped before) front
  pub start : ShowsStart (escaped part ++ escaped after) (wrong ++ back)
  pub of_part : (cut : List ℕ) × (escaped part ≡ wrong ++ cut)
  pub first : (c : ℕ) (cs : List ℕ) → chars part ≡ c ∷ cs
      → (more : List ℕ) × (wrong ≡ escaped_char c ++ more)
  pub under : StandsUnder front wrong carets
  pub line_narrow : IsNarrow line
  pub carets_narrow : IsNarrow carets

-- Returns what the line of an offset has before the offset.
abbrev pub line_before : List ℕ → ℕ → List ℕ
line_before text at = after_last (λ b. b == byte "\n") (take at text)

-- Returns what it has from the offset on.
abbrev pub line_after : List ℕ → ℕ → List ℕ
line_after text at = unwrap_or (slice_get (lines (drop at text)) 0) []

-- Returns the part of this line that is in the range of an error.
abbrev pub part_of_line : List ℕ → Located TimestampError → List ℕ
part_of_line text error = take (error.end - error.start) (line_after text error.start)

-- Returns the number of line feeds in a text.
abbrev pub line_feeds : List ℕ → ℕ
line_feeds text = count_by (λ b. b == byte "\n") text

-- The lines show the bytes of a text between two offsets: a message, after the number of the line
-- if the text has several, the line of the first offset, and below it carets under these bytes, as
-- far as they are in this line and shown. The line and the carets begin in the same column.
pub record ShowsRange (text message : List ℕ) (start end : ℕ) (lines : List ℕ) : Type 0 where
  pub line : List ℕ
  pub carets : List ℕ
  pub shows : ShowsLine (line_before text start) (take (end - start) (line_after text start))
      (drop (end - start) (line_after text start)) line carets
  pub whole : lines
      ≡ (if nat_lt 0 (line_feeds text)
      then codes "line " ++ (decimal (line_feeds (take start text) + 1) ++ codes ": ") else [])
      ++ (message ++ (codes "\n  " ++ (line ++ (codes "\n  " ++ carets))))
