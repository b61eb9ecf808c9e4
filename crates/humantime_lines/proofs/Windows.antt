-- What is shown of a line.
use Rattle.std.proofs.Common.{◌≡◌, ◌+◌, ◌-◌, ◌<◌, ◌≤◌, ◌⊎◌, ◌∙◌, ℕ, List, [], ◌∷◌, ◌++◌}
use Rattle.std.proofs.Common.{IsCharBoundary, IsUtf8, ap, arith}
use Rattle.std.proofs.Common.{append-nil, append_assoc, chars, drop, encode_utf8, length}
use Rattle.std.proofs.Common.{length-append, max, min, refl}
use Rattle.std.proofs.Common.{inl, inr, sym, take}
use Rattle.std.proofs.Math.Seq.{drop-append_seam, take-append_seam}
use Rattle.std.proofs.lemmas.Bool.{le-leb, lt-leb}
use Rattle.std.proofs.lemmas.Grind.{flat_map-append}
pub use Rattle.std.proofs.lemmas.Bool.Decides.{nat_tests}
use Rattle.std.proofs.lemmas.List.Sums.{sum_by-append, sum_by-cons}
use Rattle.std.proofs.lemmas.Str.{IsCharBoundary-at_seam, IsUtf8-append, IsUtf8-encode}
use Rattle.std.proofs.lemmas.Str.{chars-append, chars-nil, chars_past_char, encode_ascii}
use Rattle.std.specs.Char.{IsScalar}
use Rattle.humantime_lines.specs.Escapes.{escaped_char, escaped_chars, room}
use Rattle.humantime_lines.specs.MarkedLines.{cut_to, dots, end_within, line_room, start_within}
use Rattle.humantime_lines.specs.MarkedLines.{window_of}
use Rattle.humantime_lines.specs.MarkedLines.{IsWritten}
use Rattle.unicode_width.specs.Width.{char_width}

pub line_room-cons : (c : ℕ) (line : List ℕ) → line_room (c ∷ line) ≡ room c + line_room line
line_room-cons c line = sum_by-cons room c line

pub line_room-nil : line_room [] ≡ 0
line_room-nil = refl

pub ruleset line_room_laws = (line_room-cons, line_room-nil, chars-nil)

-- A character that fits is part of the longest start.
pub start_within-cons : (n c : ℕ) (line : List ℕ) → room c ≤ n
    → start_within n (c ∷ line) ≡ c ∷ start_within (n - room c) line
start_within-cons n c line fits = grind (arith, nat_tests)

-- One that does not fit ends it.
pub start_within-stops : (n c : ℕ) (line : List ℕ) → n < room c → start_within n (c ∷ line) ≡ []
start_within-stops n c line wide = grind (arith, nat_tests)

-- The longest end of a line that fits is the line.
pub end_within-whole : (n : ℕ) (line : List ℕ) → line_room line ≤ n → end_within n line ≡ line
end_within-whole n [] fits = refl
end_within-whole n (c ∷ line) fits = grind (arith, nat_tests)

-- What fits, after a character that does not, is the longest end.
pub end_within-stops : (n : ℕ) (before : List ℕ) (c : ℕ) (end : List ℕ) → line_room end ≤ n
    → n < room c + line_room end → end_within n (before ++ (c ∷ end)) ≡ end
end_within-stops n [] c end fits wide =
    grind (arith, nat_tests, sum_by-cons room c end, end_within-whole n end)
end_within-stops n (d ∷ before) c end fits wide =
    let rest = end_within-stops n before c end fits wide in
    grind (
      arith,
      nat_tests,
      sum_by-cons room d (before ++ (c ∷ end)),
      sum_by-append room before (c ∷ end),
      sum_by-cons room c end,
    )

-- It fits.
pub line_room-end_within : (n : ℕ) (line : List ℕ) → line_room (end_within n line) ≤ n
line_room-end_within n [] = omega arith
line_room-end_within n (c ∷ line) = grind (arith, nat_tests, line_room-end_within n line)

-- A dot has one column.
pub line_room-dots : (line : List ℕ) → line_room (dots ++ line) ≡ 3 + line_room line
unfolding char_width
line_room-dots line = rw (line_room-cons, line_room-cons, line_room-cons) (omega arith)

-- A line that is cut fits.
pub line_room-cut_to : (n : ℕ) (line : List ℕ) → 3 ≤ n → line_room (cut_to n line) ≤ n
line_room-cut_to n line room_for_dots =
    grind
    (arith, nat_tests, line_room-dots (end_within (n - 3) line), line_room-end_within (n - 3) line)

pub ruleset window_laws = (line_room-dots, line_room-cut_to, nat_tests)

-- The characters of a text and one more.
pub chars-push : (text : List ℕ) (c : ℕ) → IsUtf8 text → IsScalar c
    → chars (text ++ encode_utf8 c) ≡ chars text ++ c ∷ []
chars-push text c utf8 scalar =
    let one = chars_past_char (encode_utf8 c) [] c (IsUtf8-encode c scalar) (sym (append-nil _)) in
    chars-append text (encode_utf8 c) utf8 ∙ ap (λ cs. chars text ++ cs) (rw chars-nil at one)

-- The characters before the last one, and this.
pub chars_before : (text before : List ℕ) (c : ℕ) → IsUtf8 before → IsScalar c
    → text ≡ before ++ encode_utf8 c → chars text ≡ chars before ++ c ∷ []
chars_before text before c utf8 scalar bytes = ap chars bytes ∙ chars-push before c utf8 scalar

-- The longest start of a text is what has been read and the longest start of the rest.
pub record Started (text rest : List ℕ) (columns left : ℕ) : Type 0 where
  pub front : List ℕ
  pub whole : text ≡ front ++ rest
  pub utf8 : IsUtf8 front
  pub same : start_within columns (chars text) ≡ chars front ++ start_within left (chars rest)

one_read : {text rest after : List ℕ} {columns left c : ℕ} → Started text rest columns left
    → rest ≡ encode_utf8 c ++ after → chars rest ≡ c ∷ chars after → IsScalar c → room c ≤ left
    → Started text after columns (left - room c)
one_read {text} {rest} {after} {columns} {left} {c} now bytes first scalar fits = record {
  front = now.front ++ encode_utf8 c;
  whole =
      now.whole ∙ ap (λ r. now.front ++ r) bytes
      ∙ sym (append_assoc now.front (encode_utf8 c) after);
  utf8 = IsUtf8-append now.front (encode_utf8 c) now.utf8 (IsUtf8-encode c scalar);
  same =
      let rest = start_within (left - room c) (chars after) in
      let next = ap (start_within left) first ∙ start_within-cons left c (chars after) fits in
      now.same ∙ ap (λ r. chars now.front ++ r) next
      ∙ sym (append_assoc (chars now.front) (c ∷ []) rest)
      ∙ ap (λ r. r ++ rest) (sym (chars-push now.front c now.utf8 scalar));
}

pub start_read : (text rest after : List ℕ) (columns left c n : ℕ) → Started text rest columns left
    → rest ≡ encode_utf8 c ++ after → chars rest ≡ c ∷ chars after → IsScalar c
    → n ≡ room c → n ≤ left
    → Started text after columns (left - n)
start_read text rest after columns left c n now bytes first scalar is fits =
    rw is (one_read now bytes first scalar (rw is at fits))

start_seam : {text rest : List ℕ} {columns left : ℕ} (now : Started text rest columns left)
    → length text - length rest ≡ length now.front
start_seam {text} {rest} now =
    let long = ap length now.whole ∙ length-append now.front rest in omega (arith, long)

pub start_boundary : {text rest : List ℕ} {columns left : ℕ} → Started text rest columns left
    → IsUtf8 rest → IsCharBoundary text (length text - length rest)
start_boundary {text} {rest} now utf8 =
    rw (start_seam now) (IsCharBoundary-at_seam text now.front rest now.whole utf8)

pub start_ends : {text rest : List ℕ} {columns left : ℕ} → Started text rest columns left
    → start_within left (chars rest) ≡ []
    → start_within columns (chars text) ≡ chars (take (length text - length rest) text)
start_ends {text} {rest} {columns} {left} now stops =
    let front : take (length text - length rest) text ≡ now.front =
    rw (start_seam now, now.whole) (take-append_seam now.front rest) in
    now.same ∙ ap (λ r. chars now.front ++ r) stops ∙ append-nil (chars now.front)
    ∙ ap chars (sym front)

-- The longest end of a text begins where it has been read from its end.
pub record Ended (text rest : List ℕ) (columns left : ℕ) : Type 0 where
  pub back : List ℕ
  pub whole : text ≡ rest ++ back
  pub utf8 : IsUtf8 back
  pub room : line_room (chars back) + left ≡ columns

one_read_back : {text rest before : List ℕ} {columns left : ℕ} (c : ℕ)
    → Ended text rest columns left
    → rest ≡ before ++ encode_utf8 c → IsScalar c → room c ≤ left
    → Ended text before columns (left - room c)
one_read_back {text} {rest} {before} {columns} {left} c now bytes scalar fits = record {
  back = encode_utf8 c ++ now.back;
  whole = now.whole ∙ ap (λ r. r ++ now.back) bytes ∙ append_assoc before (encode_utf8 c) now.back;
  utf8 = IsUtf8-append (encode_utf8 c) now.back (IsUtf8-encode c scalar) now.utf8;
  room =
      let utf8 = IsUtf8-append (encode_utf8 c) now.back (IsUtf8-encode c scalar) now.utf8 in
      let first = chars_past_char (encode_utf8 c ++ now.back) now.back c utf8 refl in
      omega (arith, now.room, ap line_room first ∙ line_room-cons c (chars now.back));
}

pub end_read : (text rest before : List ℕ) (columns left c n : ℕ) → Ended text rest columns left
    → rest ≡ before ++ encode_utf8 c → IsScalar c → n ≡ room c → n ≤ left
    → Ended text before columns (left - n)
end_read text rest before columns left c n now bytes scalar is fits =
    rw is (one_read_back c now bytes scalar (rw is at fits))

-- Characters have been read whole from the end, or the next one does not fit.
abbrev pub Stopped : List ℕ → ℕ → Type 0
Stopped rest left =
    (rest ≡ []) ⊎ ((before : List ℕ) × (c : ℕ) × (rest ≡ before ++ c ∷ []) × (left < room c))

end_kept : (rest back : List ℕ) (left columns : ℕ) → line_room back + left ≡ columns
    → Stopped rest left → end_within columns (rest ++ back) ≡ back
end_kept rest back left columns read (inl none) =
    ap (λ r. end_within columns (r ++ back)) none ∙ end_within-whole columns back (omega arith)
end_kept rest back left columns read (inr (before, c, is, wide)) =
    let line = ap (λ r. r ++ back) is ∙ append_assoc before (c ∷ []) back in
    ap (end_within columns) line
    ∙ end_within-stops columns before c back (omega arith) (omega arith)

pub end_boundary : {text rest : List ℕ} {columns left : ℕ} → Ended text rest columns left
    → IsCharBoundary text (length rest)
end_boundary {text} {rest} now = IsCharBoundary-at_seam text rest now.back now.whole now.utf8

pub end_stops : {text rest : List ℕ} {columns left : ℕ} → Ended text rest columns left → IsUtf8 rest
    → Stopped (chars rest) left → end_within columns (chars text) ≡ chars (drop (length rest) text)
end_stops {text} {rest} {columns} {left} now utf8 stopped =
    let back = ap (drop (length rest)) now.whole ∙ drop-append_seam rest now.back in
    let spelled = ap chars now.whole ∙ chars-append rest now.back utf8 in
    ap (end_within columns) spelled
    ∙ end_kept (chars rest) (chars now.back) left columns now.room stopped ∙ ap chars (sym back)

-- What is written of a line whose rest fits.
pub whole_written : (before part after front : List ℕ) (space left : ℕ)
    → space ≡ 78 - max (min (line_room part + line_room after) 39) 1
    → left ≡ 78 - line_room (cut_to space before) → line_room part + line_room after ≤ left
    → front ≡ escaped_chars (cut_to space before)
    → IsWritten (window_of before part after) front (escaped_chars part) (escaped_chars after)
unfolding window_of
whole_written before part after front space left space_is left_is fits shown =
    rw (← space_is, ← left_is, le-leb (line_room part + line_room after) left fits)
    (record { before = shown; part = refl; after = refl })

pub escaped_chars-dots : (line : List ℕ) → escaped_chars (line ++ dots) ≡ escaped_chars line ++ dots
escaped_chars-dots line =
    let three : escaped_chars dots ≡ dots = rw (encode_ascii 46 (omega arith)) refl in
    flat_map-append escaped_char line dots ∙ ap (λ end. escaped_chars line ++ end) three

-- What is written of a line whose rest is cut.
pub cut_written : (before part after front : List ℕ) (space left n : ℕ) (kept kept_after : List ℕ)
    → space ≡ 78 - max (min (line_room part + line_room after) 39) 1
    → left ≡ 78 - line_room (cut_to space before) → left < line_room part + line_room after
    → front ≡ escaped_chars (cut_to space before) → kept ≡ start_within (left - 3) part
    → n ≡ left - 3 - line_room part → kept_after ≡ start_within n after
    → IsWritten (window_of before part after) front (escaped_chars kept)
    (escaped_chars kept_after ++ dots)
unfolding window_of
cut_written before part after front space left n kept kept_after space_is left_is wide shown
    part_is n_is after_is =
    let cut = lt-leb (line_room part + line_room after) left wide in
    rw (← space_is, ← left_is, cut, ← n_is, ← part_is, ← after_is)
    (record { before = shown; part = refl; after = sym (escaped_chars-dots kept_after) })
