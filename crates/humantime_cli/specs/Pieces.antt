-- A piece of a text, from an offset on.
use Rattle.std.specs.Prelude.{◌≡◌, ℕ, ◌-◌, List, ◌++◌, length, take, drop, min, nat_lt}
use Rattle.humantime_cli.specs.declared.piece.Piece.{Piece}

-- The piece has the first 192 bytes of the text from the offset on, or all of them if there are no
-- more, and otherwise is cut. `skip` is the number of bytes that the text lacks to reach the
-- offset.
pub record IsPiece (start : ℕ) (text : List ℕ) (piece : Piece) : Type 0 where
  pub skip : piece.skip ≡ start - length text
  pub len : piece.len ≡ min 192 (length text - start)
  pub cut : piece.is_cut ≡ nat_lt 192 (length text - start)
  pub bytes : take piece.len piece.bytes ≡ take 192 (drop start text)

-- The bytes were appended to the text.
pub record AddsText (old : Piece) (bytes : List ℕ) (new : Piece) : Type 0 where
  pub adds : (start : ℕ) (text : List ℕ) → IsPiece start text old
      → IsPiece start (text ++ bytes) new
