use Rattle.std.proofs.Common.{◌≡◌, ◌∙◌, ℤ, Option, None, Some, SomeIff, arith}
use Rattle.std.proofs.lemmas.Int.{ints}
use Rattle.humantime_std.proofs.times.SystemTimeSystemTimeExt.checked_sub.Goals as goal

-- A value that is there under a condition that holds is there under any other that holds.
is_there : {P Q : Type 0} (r : Option ℤ) (x y : ℤ) → SomeIff r P x → P → Q × (x ≡ y) → SomeIff r Q y
is_there None x y found holds is = absurd (found holds)
is_there (Some z) x y found holds is = (is.0, found.1 ∙ is.1)

pub returns-in_err-secs : goal.returns-in_err-secs
returns-in_err-secs c = grind (arith, ints)

pub returns-in_err-checked_sub : goal.returns-in_err-checked_sub
returns-in_err-checked_sub c = grind (arith, ints)

pub returns-then-other-nanos : goal.returns-then-other-nanos
returns-then-other-nanos c =
    is_there _ _ _ c.from_parts.ensures (omega arith) (omega (arith, ints, c.in_ok-secs.ensures))

pub returns-in_ok-checked_sub : goal.returns-in_ok-checked_sub
returns-in_ok-checked_sub c =
    is_there _ _ _ c.from_parts-else-other-nanos.ensures (omega arith)
    (omega (arith, ints, c.in_ok-secs.ensures, c.in_ok-checked_sub.ensures))
