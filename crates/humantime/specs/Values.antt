-- Amounts of time as numbers of nanoseconds, and moments as signed numbers of nanoseconds since
-- 1970-01-01T00:00:00Z.
use Rattle.std.specs.Prelude.{ℕ, ◌^◌, ◌*◌, ℤ, pos, nat_abs, ◌+ℤ◌, ◌*ℤ◌}
use Rattle.std.specs.Int.{int_div_euclid, int_rem_euclid}

-- The number of nanoseconds in a microsecond.
abbrev pub nanos_per_micro : ℕ
nanos_per_micro = 1_000

-- The number of nanoseconds in a millisecond.
abbrev pub nanos_per_milli : ℕ
nanos_per_milli = 1_000_000

-- The number of nanoseconds in a second.
abbrev pub nanos_per_second : ℕ
nanos_per_second = 1_000_000_000

-- The number of seconds in a minute.
abbrev pub seconds_per_minute : ℕ
seconds_per_minute = 60

-- The number of seconds in an hour.
abbrev pub seconds_per_hour : ℕ
seconds_per_hour = 3_600

-- The number of seconds in a day.
abbrev pub seconds_per_day : ℕ
seconds_per_day = 86_400

-- The number of seconds in a week.
abbrev pub seconds_per_week : ℕ
seconds_per_week = 604_800

-- The number of seconds in a month of 30.44 days.
abbrev pub seconds_per_month : ℕ
seconds_per_month = 2_630_016

-- The number of seconds in a year of 365.25 days.
abbrev pub seconds_per_year : ℕ
seconds_per_year = 31_557_600

-- The exclusive upper bound of durations: 2^64 seconds, in nanoseconds.
abbrev pub duration_end : ℕ
duration_end = 2 ^ 64 * nanos_per_second

-- Returns a moment in nanoseconds, given its seconds since 1970-01-01T00:00:00Z, which may be
-- negative, and the nanoseconds after them.
abbrev pub moment : ℤ → ℕ → ℤ
moment secs nanos = secs *ℤ pos nanos_per_second +ℤ pos nanos

-- Returns the seconds of a moment, rounded down.
abbrev pub second_of : ℤ → ℤ
second_of t = int_div_euclid t (pos nanos_per_second)

-- Returns the nanoseconds of a moment after its second, below 10^9.
abbrev pub nano_of : ℤ → ℕ
nano_of t = nat_abs (int_rem_euclid t (pos nanos_per_second))

-- The exclusive upper bound of moments: 2^63 seconds, in nanoseconds.
abbrev pub moment_end : ℤ
moment_end = pos (2 ^ 63 * nanos_per_second)
