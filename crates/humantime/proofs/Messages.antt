-- Texts that are written to a formatter one after the other, whatever its options are.
use Rattle.std.proofs.Common.{◌≡◌, ℕ, List, ◌++◌, append_assoc, refl}
use Rattle.std.proofs.Output.{has_written_styled_append, has_written_styled_of_eq}
use Rattle.std.specs.Fmt.{HasWrittenStyled}
use Rattle.std.specs.declared.fmt.Formatter.{Formatter}

module _ {W : Type 0} (took : W → List ℕ → W → Type 0) where
  pub two_written : (f g h : Formatter W) (a b all : List ℕ) → HasWrittenStyled took f a g
      → HasWrittenStyled took g b h → a ++ b ≡ all
      → HasWrittenStyled took f all h
  two_written f g h a b all p q is =
      has_written_styled_of_eq took _ _ all _ is (has_written_styled_append took _ _ _ _ _ p q)

  pub three_written : (f g h i : Formatter W) (a b c all : List ℕ) → HasWrittenStyled took f a g
      → HasWrittenStyled took g b h
      → HasWrittenStyled took h c i → a ++ (b ++ c) ≡ all → HasWrittenStyled took f all i
  three_written f g h i a b c all p q r is =
      two_written f g i a (b ++ c) all p (two_written g h i b c (b ++ c) q r refl) is

pub ruleset texts_written = (two_written, three_written, append_assoc)
