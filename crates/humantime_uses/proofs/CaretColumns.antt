-- A caret line stands under its part.
use Rattle.std.proofs.Common.{◌≡◌, ◌+◌, ◌<◌, ◌++◌, ◌⊎◌, ◌∙◌, ℕ, List, [], ◌∷◌, All, ap, append-nil, append_assoc, arith, inl, inr, length, length-append, map, refl, replicate}
use Rattle.std.proofs.lemmas.List.{length-replicate}
use Rattle.std.proofs.lemmas.List.Splits.{length-slice_split, slice_split_at, slice_split_none}
use Rattle.std.specs.List.{join_with_byte, slice_split}
use Rattle.std.proofs.Math.Nat.{add-zero}
use Rattle.std.proofs.lemmas.List.Elements.{All-append, All-cons, All-nil, All-replicate}
use Rattle.humantime_lines.specs.Carets.{blanks, caret_line, columns, is_tab}
use Rattle.humantime_uses.specs.CaretColumns.{StandsUnder, column_after, column_of_pieces}
use Rattle.humantime_uses.proofs.Printable.{HasNoTab, columns_of_printable, printable_append}
use Rattle.humantime_uses.proofs.Printable.{printable_no_tab, printable_replicate}

-- A tab leads from the column after a piece to the next tab stop.
column_of_next : (stop : ℕ → ℕ) (column : ℕ) (piece : List ℕ) (pieces : List (List ℕ))
    → 0 < length pieces
    → column_of_pieces stop column (piece ∷ pieces)
    ≡ column_of_pieces stop (stop (column + columns piece)) pieces
column_of_next stop column piece [] some = absurd (omega arith)
column_of_next stop column piece (next ∷ pieces) some = refl

-- The same of a text, whose piece ends at its first tab.
pub column_after_tab : (stop : ℕ → ℕ) (column : ℕ) (piece rest : List ℕ) → HasNoTab piece
    → column_after stop column (piece ++ 9 ∷ rest)
    ≡ column_after stop (stop (column + columns piece)) rest
column_after_tab stop column piece rest no_tab =
    let pieces = slice_split is_tab rest in
    ap (column_of_pieces stop column) (slice_split_at is_tab piece 9 rest no_tab refl)
    ∙ column_of_next stop column piece pieces (omega (arith, length-slice_split is_tab rest))

abbrev spaces : List ℕ → List ℕ
spaces piece = replicate (columns piece) 32

-- Spaces lead as far as the pieces that have as many columns, and each caret one column farther.
column_of_spaces : (stop : ℕ → ℕ) (column n : ℕ) (pieces : List (List ℕ)) → 0 < length pieces
    → column_after stop column (join_with_byte 9 (map spaces pieces) ++ replicate n 94)
    ≡ column_of_pieces stop column pieces + n
column_of_spaces stop column n [] some = absurd (omega arith)
column_of_spaces stop column n (p ∷ []) some =
    let text = spaces p ++ replicate n 94 in
    let first = printable_replicate (columns p) 32 refl in
    let last = printable_replicate n 94 refl in
    let pass = printable_append (spaces p) (replicate n 94) first last in
    let long : length text ≡ columns p + n = simp (length-append, length-replicate) in
    rw (slice_split_none is_tab text (printable_no_tab text pass), columns_of_printable text pass)
    (omega arith)
column_of_spaces stop column n (p ∷ q ∷ ps) some =
    let pass = printable_replicate (columns p) 32 refl in
    let no_tab = printable_no_tab (spaces p) pass in
    let size = length-replicate (columns p) 32 in
    let long : columns (spaces p) ≡ columns p = columns_of_printable (spaces p) pass ∙ size in
    rw (append_assoc, column_after_tab stop column (spaces p) _ no_tab, long)
    (column_of_spaces stop (stop (column + columns p)) n (q ∷ ps) (omega arith))

-- Blanks lead as far as the part of the line above them, and each caret one column farther.
pub column_of_carets : (stop : ℕ → ℕ) (column n : ℕ) (before : List ℕ)
    → column_after stop column (blanks before ++ replicate n 94)
    ≡ column_after stop column before + n
column_of_carets stop column n before =
    let pieces = slice_split is_tab before in
    column_of_spaces stop column n pieces (omega (arith, length-slice_split is_tab before))

abbrev IsBlank : ℕ → Type 0
IsBlank b = (b ≡ 32) ⊎ (b ≡ 9)

joined_blank : (pieces : List (List ℕ)) → All IsBlank (join_with_byte 9 (map spaces pieces))
joined_blank [] = All-nil IsBlank
joined_blank (p ∷ []) = All-replicate IsBlank (columns p) 32 (inl refl)
joined_blank (p ∷ q ∷ ps) =
    let rest = All-cons IsBlank 9 _ (inr refl) (joined_blank (q ∷ ps)) in
    All-append IsBlank (spaces p) _ (All-replicate IsBlank (columns p) 32 (inl refl)) rest

-- The carets of a line stand under its part.
pub stands_under : (before part : List ℕ) → StandsUnder before part (caret_line before part)
stands_under before part = record {
  blanks = blanks before;
  whole = refl;
  blank = joined_blank (slice_split is_tab before);
  begins = λ stop column. simp (append-nil, add-zero) at (column_of_carets stop column 0 before);
}
