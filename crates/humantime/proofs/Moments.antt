-- A moment and its parts, and the order of moments.
use Rattle.std.proofs.Common.{◌≡◌, ℕ, ◌<◌, arith, rules, ℤ, nat_cmp, int_cmp}
use Rattle.std.proofs.lemmas.Int.{ints}
use Rattle.std.specs.Ordering.{ordering_then}
use Rattle.humantime.specs.Values.{moment, second_of, nano_of}

-- A moment is the sum of its parts.
pub parts_of_moment : (z : ℤ) → moment (second_of z) (nano_of z) ≡ z
parts_of_moment z = grind (arith, ints)

-- Moments are ordered by their seconds, and within a second by their nanoseconds.
pub int_cmp_moment : (s t : ℤ) (m n : ℕ) → m < 1_000_000_000 → n < 1_000_000_000
    → int_cmp (moment s m) (moment t n) ≡ ordering_then (int_cmp s t) (nat_cmp m n)
int_cmp_moment s t m n small small' = search (rules, ints)
