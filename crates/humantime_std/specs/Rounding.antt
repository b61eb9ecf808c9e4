-- Rounding of a duration to a multiple of a step. Both are numbers of nanoseconds.
use Rattle.std.specs.Prelude.{ℕ, ◌+◌, ◌-◌, ◌*◌, ◌/◌, nat_lt, if◌then◌else◌}

-- Returns the multiple of a step that is nearest to a duration, or the greater of two that are
-- equally near: the one below it if the rest is less than half of the step, or else the next.
abbrev pub nearest_multiple : ℕ → ℕ → ℕ
nearest_multiple step duration =
    let below = duration / step * step in
    if nat_lt ((duration - below) * 2) step then below else below + step
