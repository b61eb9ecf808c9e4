-- The bytes that a writer has accepted, if they are known.
use Rattle.std.specs.Prelude.{ℕ, ◌<◌, List, [], ◌∷◌, ◌++◌, length, take, Option, Result, MatchResult}
use Rattle.std.specs.Io.KnownBytes.{Appends}

-- A text followed by a line feed.
abbrev pub line : List ℕ → List ℕ
line text = text ++ 10 ∷ []

-- The writer accepted a prefix of the bytes, not all of them.
abbrev pub AppendsFront : Option (List ℕ) → Option (List ℕ) → List ℕ → Type 0
AppendsFront old new bytes = (n : ℕ) × (n < length bytes) × Appends old new (take n bytes)

-- The writer accepted the bytes if the result is `Ok`, and otherwise a prefix of them, not all of
-- them.
unfoldable pub Writes : {T E : Type 0} → Result T E → Option (List ℕ) → Option (List ℕ) → List ℕ
    → Type 0
Writes result old new bytes =
    MatchResult result (λ _. Appends old new bytes) (λ _. AppendsFront old new bytes)
