-- The contents of a buffer after a call, once its result no longer borrows from it.
use Rattle.std.specs.Prelude.{◌≡◌, ℕ, List, Option, Result, IfNone, OnErr, ⊤}
use Rattle.std.specs.Borrow.{follows_so, Fml, MutBor, Array, u8}
use mathlib.Core.Option.{none}

-- Once nothing borrows from the buffer of `n` bytes, `P` holds of its bytes.
abbrev pub BufferHolds : ℕ → MutBor (List ℕ) → (List ℕ → Type 0) → Fml
BufferHolds n buf P = follows_so (Array u8 n) (Array u8 n) buf.ghost_name none (λ _ _. ⊤) P

-- If the result is `None`, the buffer is unchanged once nothing borrows from it.
abbrev pub UnchangedOnNone : {A : Type 0} → ℕ → MutBor (List ℕ) → Option A → Fml
UnchangedOnNone n buf answer = BufferHolds n buf (λ last. IfNone answer (last ≡ buf.now))

-- If the result is `Err`, the buffer is unchanged once nothing borrows from it.
abbrev pub UnchangedOnErr : {A E : Type 0} → ℕ → MutBor (List ℕ) → Result A E → Fml
UnchangedOnErr n buf answer = BufferHolds n buf (λ last. OnErr answer (last ≡ buf.now))
