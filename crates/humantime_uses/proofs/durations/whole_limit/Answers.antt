use Rattle.std.proofs.Common.{◌*◌, ◌≤◌, ℕ, List, refl}
use Rattle.humantime.specs.Prelude.{Accepted, nanos_per_second}
use Rattle.humantime_uses.proofs.durations.whole_limit.Goals as goal

-- A text is accepted with a value that is not longer than a number of seconds.
rounded : (text : List ℕ) (v secs : ℕ) → Accepted text v → v ≤ secs * nanos_per_second
    → (x : ℕ) × Accepted text x × (x ≤ secs * nanos_per_second)
rounded text v secs is fits = (v, is, fits)

pub returns-in-Some : goal.returns-in-Some
returns-in-Some c =
    rounded _ _ _ ((c.in_ok-parse_duration.ensures.value _).0 refl) c.in-Some.ensures
