-- Rounding to a multiple of a step.
use Rattle.std.proofs.Common.{◌≡◌, ◌≢◌, ℕ, ◌+◌, ◌-◌, ◌*◌, ◌/◌, ◌%◌, arith, inl, inr}
use Rattle.std.proofs.lemmas.Bool.{cases_lt}
use Rattle.std.proofs.lemmas.Bool.Decides.{nat_tests}
use Rattle.std.proofs.lemmas.Nat.{div-mul-add, div-add-mod'}
use Rattle.humantime_std.specs.Rounding.{nearest_multiple}

-- Half of a step is added, and the quotient is truncated.
pub half_added : (d step : ℕ) → step ≢ 0 → (d + step / 2) / step * step ≡ nearest_multiple step d
half_added d step some =
    let rest = d % step in
    let whole = div-add-mod' d step in
    let below = div-mul-add (d / step) step (rest + step / 2) in
    let above = div-mul-add (d / step + 1) step (rest + step / 2 - step) in
    elim (cases_lt (rest * 2) step) [
      | inl less ↦ grind (arith, nat_tests, whole, below)
      | inr more ↦ grind (arith, nat_tests, whole, above)
    ]
