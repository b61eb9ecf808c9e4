-- Lemmas about a piece of a text, and about a line that is written piece by piece.
use Rattle.std.proofs.Common.{arith, take_all, take-append-drop, append_assoc, append-nil, ◌≡◌, ℕ, zero, suc, List, [], ◌∷◌, ◌++◌, ◌≤◌, ◌<◌, ◌+◌, ◌-◌, refl, sym, ap, ◌∙◌, take, drop, min, subst, length, length-append, length-take, length-drop, take-take, Option, None, Some, IsSome, true, false, ◌||◌, ◌&&◌, ◌==◌, not, Bool, nat_lt, unwrap_or}
use Rattle.std.proofs.lemmas.Bool.Decides.{nat_tests}
use Rattle.std.proofs.lemmas.Grind.{common_steps}
use Rattle.std.proofs.lemmas.List.{take_min, drop_min}
use Rattle.std.proofs.lemmas.Slice.{take-put_mid}
use Rattle.std.specs.Fmt.{WritesText}
use Rattle.std.specs.List.{FoldsTo, concat}
use Rattle.std.proofs.KnownBytes.{Appends-trans}
use Rattle.std.proofs.Math.Seq.{take-add}
use Rattle.std.specs.Io.KnownBytes.{Appends}
use Rattle.humantime_cli.specs.Pieces.{IsPiece, AddsText}
use Rattle.humantime_cli.specs.declared.piece.Piece.{Piece}

-- Texts that were added one after the other are one text.
adds_all : (old : Piece) (texts : List (List ℕ)) (new : Piece) → FoldsTo AddsText old texts new
    → AddsText old (concat texts) new
adds_all old [] new same =
    record { adds = λ start text is. rw (append-nil text) (subst (IsPiece start text) same is) }
adds_all old (x ∷ xs) new (mid, first, rest) = record {
  adds =
      λ start text is. rw (sym (append_assoc text x (concat xs)))
      ((adds_all mid xs new rest).adds start (text ++ x) (first.adds start text is));
}

-- The first bytes of two texts in a row, and what follows them.
take_both : (n : ℕ) (xs ys : List ℕ) → take n (xs ++ ys) ≡ take n xs ++ take (n - length xs) ys
take_both zero xs ys = grind arith
take_both (suc n) [] ys = let whole : suc n - 0 ≡ suc n = omega arith in rw whole refl
take_both (suc n) (x ∷ xs) ys = grind (arith, (take_both n xs ys))

drop_both : (n : ℕ) (xs ys : List ℕ) → drop n (xs ++ ys) ≡ drop n xs ++ drop (n - length xs) ys
drop_both zero xs ys = grind arith
drop_both (suc n) [] ys = let whole : suc n - 0 ≡ suc n = omega arith in rw whole refl
drop_both (suc n) (x ∷ xs) ys = grind (arith, (drop_both n xs ys))

-- As much of a text was added to a piece as fits.
pub longer_piece : (old new : Piece) (s rest : List ℕ) (count : ℕ)
    → new.skip ≡ old.skip - min old.skip (length s) → rest ≡ drop (min old.skip (length s)) s
    → count ≡ min (length rest) (192 - old.len) → new.len ≡ old.len + count
    → new.is_cut ≡ (old.is_cut || nat_lt count (length rest))
    → take new.len new.bytes ≡ take old.len old.bytes ++ take count rest → AddsText old s new
longer_piece old new s rest count skip left most len cut bytes = record {
  adds = λ start text is.
      let longer = length-append text s in
      let after : rest ≡ drop (start - length text) s = rw (left, is.skip, drop_min) refl in
      let size = ap length after ∙ length-drop (start - length text) s in
      let room : count ≡ min (192 - length (drop start text)) (length rest) =
      omega (arith, most, is.len, length-drop start text) in
      let few = ap (λ n. take n rest) room ∙ take_min _ rest ∙ ap (take (192 - length (drop start text))) after in
      record {
        skip = grind (arith, is, longer, skip);
        len = grind (arith, is, longer, size, most, len);
        cut = grind (arith, nat_tests, is, longer, size, most, cut);
        bytes = bytes ∙ rw (
          few,
          is.bytes,
          drop_both start text s,
          take_both 192 (drop start text) (drop (start - length text) s),
        ) refl;
      };
}

-- What adding a text to a piece needs.
pub ruleset pieces = (longer_piece, take-put_mid, common_steps, nat_tests)

-- A value was displayed to an empty piece, and a text after it.
pub displayed : (output : Option (List ℕ)) (start : ℕ) (old new : Piece) → IsSome output
    → WritesText AddsText old output new → IsPiece start [] old
    → IsPiece start (unwrap_or output []) new
displayed None start old new some wrote is = cc
displayed (Some text) start old new some wrote is =
    (subst (λ (t : List ℕ). AddsText old t new) wrote.whole
    (adds_all old wrote.parts new wrote.calls)).adds start [] is

pub added : (start : ℕ) (text s : List ℕ) (old new : Piece) → IsPiece start text old
    → AddsText old s new → IsPiece start (text ++ s) new
added start text s old new is adds = adds.adds start text is

-- What a piece of a line needs.
pub ruleset lines = (displayed, added)

-- After the first bytes of a text, some of a piece were written, and more bytes of the text follow.
pub more_left : (text bytes : List ℕ) (done count next : ℕ) (piece : Piece) (ends : Bool)
    → IsPiece done text piece → bytes ≡ take piece.len piece.bytes
    → done < length text → count ≤ length bytes → ends ≡ ((count == piece.len) && not piece.is_cut)
    → ends ≡ false
    → next ≡ done + count → next < length text
more_left text bytes done count next piece ends is shown some few told more sum =
    let size : length bytes ≡ min 192 (length text - done) =
    rw (shown, is.bytes, length-take, length-drop) refl in
    grind (arith, nat_tests, is, size, told)

pub more_written : (old mid new : Option (List ℕ)) (text bytes : List ℕ) (done count next : ℕ)
    (piece : Piece) → IsPiece done text piece
    → bytes ≡ take piece.len piece.bytes → count ≤ length bytes → Appends old mid (take done text)
    → Appends mid new (take count bytes)
    → next ≡ done + count → Appends old new (take next text)
more_written old mid new text bytes done count next piece is shown few taken more sum =
    let size : length bytes ≡ min 192 (length text - done) =
    rw (shown, is.bytes, length-take, length-drop) refl in
    let first = ap (take count) (shown ∙ is.bytes)
    ∙ take-take count 192 (drop done text) (omega (arith, few, size)) in
    let whole =
    ap (λ (rest : List ℕ). take done text ++ rest) first ∙ sym (take-add done count text) in
    rw sum (subst (Appends old new) whole (Appends-trans old mid new _ _ taken more))

-- After the first bytes of a text, all of a piece were written, and no more bytes follow.
pub all_written : (old mid new : Option (List ℕ)) (text bytes : List ℕ) (done count : ℕ)
    (piece : Piece) (ends : Bool) → IsPiece done text piece
    → bytes ≡ take piece.len piece.bytes → done < length text
    → ends ≡ ((count == piece.len) && not piece.is_cut) → ends ≡ true
    → Appends old mid (take done text) → Appends mid new (take count bytes) → Appends old new text
all_written old mid new text bytes done count piece ends is shown some told none taken more =
    let short : length text - done ≤ 192 = grind (arith, nat_tests, is.cut, told) in
    let size : length bytes ≡ min 192 (length text - done) =
    rw (shown, is.bytes, length-take, length-drop) refl in
    let all : count ≡ length bytes = grind (arith, nat_tests, told, is.len, size) in
    let rest = take_all count bytes (omega (arith, all)) ∙ shown ∙ is.bytes
    ∙ take_all 192 (drop done text) (omega (arith, short, length-drop done text)) in
    let same = ap (λ (r : List ℕ). take done text ++ r) rest ∙ take-append-drop done text in
    subst (Appends old new) same (Appends-trans old mid new _ _ taken more)

-- The lemmas about a piece that was written.
pub ruleset written = (more_left, more_written, all_written)
