-- The next run of a job.
use Rattle.std.proofs.Common.{◌≡◌, ◌↔◌, ℕ, zero, suc, ◌+◌, ◌*◌, ◌<◌, ◌≤◌, ℤ, pos, ◌+ℤ◌, ◌≤ℤ◌, ◌<ℤ◌, Option, None, Some, IsNone, IfSome, SomeIff, arith, refl, subst, sym, rules, ◌∙◌}
use Rattle.std.proofs.lemmas.Bool.{cases_lt}
use Rattle.std.proofs.lemmas.Grind.{div_ceil_times}
use Rattle.std.proofs.lemmas.Int.{ints}
use Rattle.std.proofs.lemmas.Nat.{mul-le, row_fits}
use Rattle.std.specs.Int.{div_ceil}
use Rattle.humantime.specs.Prelude.{moment_end}
use Rattle.humantime_std.proofs.Months.{last_month_begins}
use Rattle.humantime_std.specs.Schedule.{IsDue, IsNextRun}
use Rattle.humantime_std.specs.Schedule.{BeginsMonth, IsMonthlyDue, IsNextMonthlyRun}
use Rattle.humantime_std.specs.Schedule.{december_9999, midnight}

-- The first run is the next one if there is no gap.
first_run : (last now : ℤ) (every : ℕ) → now ≤ℤ last → IsNextRun last every now (last +ℤ pos every)
first_run last now every early = record {
  due = record {
    periods = 1;
    one_or_more = omega arith;
    at = omega (arith, ints);
    not_before_now = omega (arith, ints);
  };
  earliest =
      λ u due. omega (arith, ints, mul-le 1 every due.periods every due.one_or_more (omega arith));
}

-- Whole periods that are not shorter than the gap, but shorter than the gap and one more period,
-- lead to the next run.
run_after_gap : (last now : ℤ) (gap every wait k : ℕ) → now ≡ last +ℤ pos gap → 0 < gap
    → wait ≡ k * every → gap ≤ wait → wait < gap + every
    → IsNextRun last every now (last +ℤ pos wait)
run_after_gap last now gap every wait k is some whole reached short =
    let least : (j : ℕ) → gap ≤ j * every → k * every ≤ j * every = λ j reached.
    grind (arith, (cases_lt j k), (row_fits j every k every), (mul-le k every j every)) in
    record {
      due = record {
        periods = k;
        one_or_more = grind arith;
        at = omega (arith, ints);
        not_before_now = omega (arith, ints);
      };
      earliest = λ u due. omega (arith, ints, least due.periods (omega (arith, ints)));
    }

-- An answer is the next run if that is in range, and otherwise no run in range is due.
is_answer : (last now t : ℤ) (every : ℕ) (r : Option ℤ) → IsNextRun last every now t
    → SomeIff r (t <ℤ moment_end) t
    → IfSome r (IsNextRun last every now)
    × (IsNone r ↔ ((u : ℤ) → IsDue last every now u → moment_end ≤ℤ u))
is_answer last now t every None is given =
    (tt, (λ none u due. grind (arith, ints, (is.earliest u due)), λ all. search rules))
is_answer last now t every (Some x) is given = (
  subst (IsNextRun last every now) (sym given.1) is,
  (λ none. absurd (search rules), λ all. absurd (omega (arith, ints, all t is.due))),
)

-- The answer after a gap.
pub next_from_gap : (last now : ℤ) (gap every : ℕ) (r : Option ℤ) → let t =
    last +ℤ pos every in let later = last +ℤ pos (div_ceil gap every * every) in
    (gap ≡ 0 → SomeIff r (t <ℤ moment_end) t) → (0 < gap → every ≡ 0 → IsNone r)
    → (0 < gap → 0 < every → SomeIff r (later <ℤ moment_end) later)
    → (now ≤ℤ last → gap ≡ 0) → (last ≤ℤ now → now ≡ last +ℤ pos gap)
    → IfSome r (IsNextRun last every now)
    × (IsNone r ↔ ((u : ℤ) → IsDue last every now u → moment_end ≤ℤ u))
next_from_gap last now zero every r first never next early late =
    is_answer last now _ every r (first_run last now every (grind (arith, ints, late))) (first refl)
next_from_gap last now (suc g) zero None first never next early late =
    (tt, (λ none u due. absurd (grind (arith, ints, early, due)), λ all. search rules))
next_from_gap last now (suc g) zero (Some x) first never next early late =
    absurd (search (rules, never (omega arith) refl))
next_from_gap last now (suc g) (suc e) r first never next early late =
    let ends = div_ceil_times (suc g) (suc e) (omega arith) in
    let whole =
    run_after_gap last now (suc g) (suc e) _ (div_ceil (suc g) (suc e))
    (late (grind (arith, ints, early))) (omega arith) refl ends.0 ends.1 in
    is_answer last now _ (suc e) r whole (next (omega arith) (omega arith))

-- ---- monthly runs

-- The first midnight that is after the last run and not before now.
pub record IsFirstMidnight (last now : ℤ) (day : ℕ) : Type 0 where
  pub after_last : last <ℤ midnight day
  pub not_before_now : now ≤ℤ midnight day
  pub least : (n : ℕ) → last <ℤ midnight n → now ≤ℤ midnight n → day ≤ n

-- The first day that begins a month, from a day on.
pub record IsMonthFrom (day first : ℕ) : Type 0 where
  pub month : BeginsMonth first
  pub from : day ≤ first
  pub least : (n : ℕ) → BeginsMonth n → day ≤ n → first ≤ n

module _ (last now : ℤ) (day first : ℕ) (is : IsFirstMidnight last now day)
    (from : IsMonthFrom day first) where
  next_monthly : IsNextMonthlyRun last now (midnight first)
  next_monthly = record {
    due = record {
      day = first;
      month = from.month;
      at = refl;
      after_last = omega (arith, ints);
      not_before_now = omega (arith, ints);
    };
    earliest = λ u due.
        let midnight_from = is.least due.day (omega (arith, ints)) (omega (arith, ints)) in
        omega (arith, ints, from.least due.day due.month midnight_from);
  }

  -- The time at which that day begins, if there is one.
  pub monthly_found : (t : ℤ) (P : Type 0) (r : Option ℤ) → t ≡ midnight first → SomeIff r P t
      → IfSome r (IsNextMonthlyRun last now)
  monthly_found t P None at given = tt
  monthly_found t P (Some x) at given =
      subst (IsNextMonthlyRun last now) (sym (given.1 ∙ at)) next_monthly

-- No monthly run is due after the start of the last month.
pub due_in_range : (last now t : ℤ) → IsMonthlyDue last now t
    → (now ≤ℤ midnight december_9999) × (last <ℤ midnight december_9999)
due_in_range last now t due = omega (arith, ints, last_month_begins due.day due.month)
