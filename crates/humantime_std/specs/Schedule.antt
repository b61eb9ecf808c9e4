-- When a job runs next. A time and a duration are numbers of nanoseconds.
use Rattle.std.specs.Prelude.{◌≡◌, ◌*◌, ◌≤◌, ◌+ℤ◌, ◌≤ℤ◌, ◌<ℤ◌, ℕ, ℤ, pos}
use Rattle.humantime.specs.Calendar.{IsDate, day_of}
use Rattle.humantime.specs.Values.{nanos_per_second, seconds_per_day}
use Rattle.humantime.specs.declared.calendar.Date.{Date}

-- A run is due at the time `t`: it is one or more whole periods after the last run, and not before
-- now.
pub record IsDue (last : ℤ) (every : ℕ) (now t : ℤ) : Type 0 where
  pub periods : ℕ
  pub one_or_more : 1 ≤ periods
  pub at : t ≡ last +ℤ pos (periods * every)
  pub not_before_now : now ≤ℤ t

-- The time is the earliest at which a run is due.
pub record IsNextRun (last : ℤ) (every : ℕ) (now t : ℤ) : Type 0 where
  pub due : IsDue last every now t
  pub earliest : (u : ℤ) → IsDue last every now u → t ≤ℤ u

-- The day, counted from 1970-01-01, is the first of a month from 1970 to 9999.
pub record BeginsMonth (day : ℕ) : Type 0 where
  pub date : Date
  pub exists : IsDate date
  pub counted : day_of date ≡ day
  pub first : date.day ≡ 1

-- The midnight (UTC) at which a day begins.
abbrev pub midnight : ℕ → ℤ
midnight day = pos (day * (seconds_per_day * nanos_per_second))

-- The day 9999-12-01, on which the last month begins, counted from 1970-01-01.
abbrev pub december_9999 : ℕ
december_9999 = 2_932_866

-- A monthly run is due at the time `t`: it is the midnight that begins a month, after the last run,
-- and not before now.
pub record IsMonthlyDue (last now t : ℤ) : Type 0 where
  pub day : ℕ
  pub month : BeginsMonth day
  pub at : t ≡ midnight day
  pub after_last : last <ℤ t
  pub not_before_now : now ≤ℤ t

-- The time is the earliest at which a monthly run is due.
pub record IsNextMonthlyRun (last now t : ℤ) : Type 0 where
  pub due : IsMonthlyDue last now t
  pub earliest : (u : ℤ) → IsMonthlyDue last now u → t ≤ℤ u
