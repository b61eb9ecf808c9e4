-- The nearest multiple of any step to any duration, by its quotient and its rest, and what follows.
use Rattle.std.proofs.Common.{◌≡◌, ◌≢◌, ℕ, ◌+◌, ◌-◌, ◌*◌, ◌/◌, ◌%◌, ◌<◌, ◌≤◌, arith, inl, inr}
use Rattle.std.proofs.lemmas.Bool.{cases_lt}
use Rattle.std.proofs.lemmas.Bool.Decides.{nat_tests}
use Rattle.std.proofs.Math.Nat.{mul-mod_left}
use Rattle.std.proofs.lemmas.Nat.{div-add-mod', div-mul-add, row_fits, mul-le}
use Rattle.humantime_std.specs.Rounding.{nearest_multiple}

-- A rest below half of the step is dropped, and any other one is filled up to the step.
any_rest : (step quotient rest : ℕ) → rest < step → let duration = quotient * step + rest in
    (rest + rest < step → nearest_multiple step duration ≡ quotient * step)
    × (step ≤ rest + rest → nearest_multiple step duration ≡ (quotient + 1) * step)
any_rest step quotient rest below = (
  λ less. grind (arith, nat_tests, div-mul-add quotient step rest),
  λ more. grind (arith, nat_tests, div-mul-add quotient step rest),
)

-- Half of a step is filled up to the step.
pub nearest_at_tie : (step duration k : ℕ) → step ≢ 0 → duration * 2 ≡ k * step * 2 + step
    → nearest_multiple step duration ≡ (k + 1) * step
nearest_at_tie step duration k some tie = grind (arith, (any_rest step k (duration - k * step)))

-- The nearest multiple is a multiple.
pub nearest_is_whole : (step duration : ℕ) → nearest_multiple step duration % step ≡ 0
nearest_is_whole step duration =
    let quotient = duration / step in
    grind (arith, nat_tests, (mul-mod_left quotient step), (mul-mod_left (quotient + 1) step))

-- No smaller multiple is as near.
pub nearest_is_least : (step duration k : ℕ) → step ≢ 0 → duration * 2 < k * step * 2 + step
    → nearest_multiple step duration ≤ k * step
nearest_is_least step duration k some near =
    let quotient = duration / step in
    let whole = div-add-mod' duration step in
    elim (cases_lt k quotient) [
      | inl less ↦ absurd (omega (arith, whole, row_fits k step quotient step less (omega arith)))
      | inr more ↦
          let next = row_fits quotient step k step in
          let same = mul-le quotient step k step in
          grind (arith, nat_tests, whole, (cases_lt quotient k), next, same)
    ]

pub ruleset nearest_facts = (nearest_at_tie, nearest_is_whole, nearest_is_least)
