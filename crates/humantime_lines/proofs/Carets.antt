-- What stands under a line up to a part, piece by piece.
use Rattle.std.proofs.Common.{◌≡◌, ◌<◌, ◌∙◌, ℕ, zero, suc, List, [], ◌∷◌, ◌++◌, ap, append-nil}
use Rattle.std.proofs.Common.{append_assoc, arith, length, map, max, refl, replicate, sym}
use Rattle.std.proofs.Output.{has_written_styled_append, has_written_styled_of_eq}
use Rattle.std.proofs.lemmas.List.Splits.{length-slice_split, slice_split_first, slice_split_none}
use Rattle.std.proofs.lemmas.List.Sums.{fails_before_first}
use Rattle.std.specs.Fmt.{HasWrittenStyled, WritesInCalls}
use Rattle.std.specs.Fmt.InlineText.{AppendsIfIntact, IsIntact, inline_text}
use Rattle.std.specs.List.{FoldsTo, after_first, before_first, concat, join_with_byte}
use Rattle.std.specs.List.{position_or_len, repeat, slice_split}
use Rattle.std.specs.declared.fmt.Formatter.{Formatter}
use Rattle.std.specs.declared.fmt.InlineText.{InlineText}
use Rattle.humantime_lines.specs.Carets.{blanks, caret_line, columns, is_tab}

-- One byte, many times.
repeated : (n c : ℕ) → repeat n (c ∷ []) ≡ replicate n c
repeated zero c = refl
repeated (suc n) c = ap (c ∷◌) (repeated n c)

joined : (f : List ℕ → List ℕ) (x : List ℕ) (pieces : List (List ℕ)) → 0 < length pieces
    → join_with_byte 9 (x ∷ map f pieces) ≡ x ++ (9 ∷ join_with_byte 9 (map f pieces))
joined f x [] some = absurd (omega arith)
joined f x (piece ∷ pieces) some = refl

-- What has been written, and what stands under the rest of the line up to a part, are all that
-- stands under it.
pub record Under {W : Type 0} (took : W → List ℕ → W → Type 0) (f : Formatter W)
    (rest before : List ℕ) (g : Formatter W) : Type 0 where
  pub done : List ℕ
  pub wrote : HasWrittenStyled took f done g
  pub whole : done ++ blanks rest ≡ blanks before

-- No tab follows.
pub last_piece : {W : Type 0} {took : W → List ℕ → W → Type 0} {f g h : Formatter W}
    {rest before : List ℕ} {n : ℕ} → Under took f rest before g
    → HasWrittenStyled took g (repeat n (32 ∷ [])) h → n ≡ columns rest
    → position_or_len is_tab rest ≡ length rest → HasWrittenStyled took f (blanks before) h
last_piece {took} {f} {g} {h} {rest} {before} {n} now filled width none =
    let fails = λ (k d : ℕ) (few : k < length rest).
    fails_before_first is_tab rest k d (omega (arith, none)) in
    let one = slice_split_none is_tab rest fails in
    let last : blanks rest ≡ replicate n 32 = rw (one, width) refl in
    let filled = rw (repeated n 32) at filled in
    has_written_styled_of_eq took f _ _ h (rw (← last) now.whole)
    (has_written_styled_append took f _ g _ h now.wrote filled)

-- A piece and the next tab are written.
pub next_piece : {W : Type 0} {took : W → List ℕ → W → Type 0} {f g h i : Formatter W}
    {rest after before : List ℕ} {n : ℕ} (piece : List ℕ) → Under took f rest before g
    → HasWrittenStyled took g (repeat n (32 ∷ [])) h → HasWrittenStyled took h (9 ∷ []) i
    → n ≡ columns piece → (piece ≡ before_first is_tab rest)
    × (after ≡ after_first is_tab rest) × (position_or_len is_tab rest < length rest)
    → Under took f after before i
next_piece {took} {f} {g} {h} {i} {rest} {after} {before} {n} piece now filled tab width is =
    let parts = slice_split_first is_tab rest 0 is.2 in
    let pieces = slice_split is_tab after in
    let some = length-slice_split is_tab after in
    let more = joined (λ p. replicate (columns p) 32) (replicate (columns piece) 32) pieces
    (omega (arith, some)) in
    let next : blanks rest ≡ replicate n 32 ++ (9 ∷ blanks after) =
    rw (parts, width, ← is.0, ← is.1) more in
    let filled = rw (repeated n 32) at filled in
    let until = has_written_styled_append took f _ g _ h now.wrote filled in record {
      done = _;
      wrote = has_written_styled_append took f _ h _ i until tab;
      whole = simp append_assoc (rw next at now.whole);
    }

-- The carets are written.
pub carets_written : {W : Type 0} {took : W → List ℕ → W → Type 0} {f g h : Formatter W}
    (before part : List ℕ) {n : ℕ} → HasWrittenStyled took f (blanks before) g
    → HasWrittenStyled took g (repeat n (94 ∷ [])) h → n ≡ max (columns part) 1
    → HasWrittenStyled took f (caret_line before part) h
carets_written {took} {f} {g} {h} before part {n} blank carets is =
    let carets = rw (repeated n 94) at carets in
    rw is at (has_written_styled_append took f _ g _ h blank carets)

-- What is written to a text is at its end.
inline_after : {n : ℕ} (old : InlineText n) (parts : List (List ℕ)) (new : InlineText n)
    → IsIntact old → FoldsTo AppendsIfIntact old parts new
    → inline_text new ≡ inline_text old ++ concat parts
inline_after old [] new intact same = sym (append-nil (inline_text old) ∙ ap inline_text same)
inline_after old (part ∷ parts) new intact calls =
    let first = calls.1 intact in
    inline_after calls.0 parts new first.0 calls.2
    ∙ ap (λ shown. shown ++ concat parts) first.1
    ∙ append_assoc (inline_text old) part (concat parts)

-- What is written to an empty text is the text.
pub inline_written : {n : ℕ} (old new : InlineText n) (bs : List ℕ) → inline_text old ≡ []
    → IsIntact old → WritesInCalls AppendsIfIntact old bs new → inline_text new ≡ bs
inline_written old new bs empty intact wrote =
    inline_after old wrote.parts new intact wrote.calls
    ∙ ap (λ shown. shown ++ concat wrote.parts) empty ∙ wrote.whole
