-- What is shown of a line with carets under the part that is wrong. A text is its bytes, and a
-- character its number.
use Rattle.std.specs.Prelude.{◌≡◌, ◌+◌, ◌-◌, ◌/◌, ◌++◌, ℕ, List, [], ◌∷◌, Option, chars, codes}
use Rattle.std.specs.Prelude.{decimal, if◌then◌else◌, max, min, nat_le, option_map, sum_by}
use Rattle.std.specs.Prelude.{unwrap_or}
use Rattle.humantime_lines.specs.Carets.{caret_line}
use Rattle.humantime_lines.specs.Escapes.{escaped_chars, room}

-- Returns the room that characters need.
abbrev pub line_room : List ℕ → ℕ
line_room line = sum_by room line

-- Returns the longest start of a line that has room in `n` columns.
abbrev pub start_within : ℕ → List ℕ → List ℕ
start_within n [] = []
start_within n (c ∷ line) = if nat_le (room c) n then c ∷ start_within (n - room c) line else []

-- Returns the longest end of a line that has room in `n` columns.
abbrev pub end_within : ℕ → List ℕ → List ℕ
end_within n [] = []
end_within n (c ∷ line) = if nat_le (line_room (c ∷ line)) n then c ∷ line else end_within n line

abbrev pub dots : List ℕ
dots = codes "..."

-- Returns a line, or if it needs more than `n` columns, dots and as much of its end as has room
-- after them.
abbrev pub cut_to : ℕ → List ℕ → List ℕ
cut_to n line = if nat_le (line_room line) n then line else dots ++ end_within (n - 3) line

-- What is shown of a line: before the part that is wrong, of this part, and after it.
pub record Window : Type 0 where
  pub before : List ℕ
  pub part : List ℕ
  pub after : List ℕ

-- The most columns of a line that is shown, which are 80 after the two spaces of a report.
abbrev pub width : ℕ
width = 78

-- Returns what is shown of a line, in at most `width` columns, with dots where it is cut. For the
-- part that is wrong and what is after it, columns are kept: as many as they need, but at most half
-- of all, and at least one for a caret. What is before the part has the others, and the rest has
-- what this leaves.
unfoldable pub window_of : List ℕ → List ℕ → List ℕ → Window
window_of before part after =
    let rest = line_room part + line_room after in
    let kept = max (min rest (width / 2)) 1 in
    let front = cut_to (width - kept) before in
    let left = width - line_room front in
    let for_after = left - 3 - line_room part in
    if nat_le rest left then record { before = front; part = part; after = after }
    else record {
      before = front;
      part = start_within (left - 3) part;
      after = start_within for_after after ++ dots;
    }

-- The pieces of a window, as they are written.
pub record IsWritten (window : Window) (front wrong back : List ℕ) : Type 0 where
  pub before : front ≡ escaped_chars window.before
  pub part : wrong ≡ escaped_chars window.part
  pub after : back ≡ escaped_chars window.after

-- Returns a line and its caret line, as far as they are shown, each after the same indent.
abbrev pub marked_lines : List ℕ → List ℕ → List ℕ → List ℕ → List ℕ
marked_lines indent before part after =
    let seen = window_of (chars before) (chars part) (chars after) in
    let front = escaped_chars seen.before in
    let wrong = escaped_chars seen.part in
    indent ++ (front ++ (wrong ++ (escaped_chars seen.after
    ++ (codes "\n" ++ (indent ++ caret_line front wrong)))))

-- Returns the text of a report: the number of the line, if it has one, the message, the line and
-- its caret line.
abbrev pub report_text : Option ℕ → List ℕ → List ℕ → List ℕ → List ℕ → List ℕ
report_text number message before part after =
    unwrap_or (option_map (λ n. codes "line " ++ (decimal n ++ codes ": ")) number) []
    ++ (message ++ (codes "\n" ++ marked_lines (codes "  ") before part after))
