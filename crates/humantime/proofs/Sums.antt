-- The sum of spans, and whether it is within the limits.
use Rattle.humantime.specs.Characters.{u64_max}
use Rattle.humantime.specs.DurationErrors.{Fault, NumberOverflow}
use Rattle.humantime.specs.Durations.{Quantity, Nanos, Seconds, quantity_nanos, total, has_room, AllHaveRoom, additions_of, additions, value, Formed, fits, WithinLimits, SpelledSpan}
use Rattle.humantime.specs.Items.{items_of}
use Rattle.humantime.specs.Values.{nanos_per_second}
use Rattle.humantime.specs.Walks.{add_all, add_span, sum_spans}
use Rattle.std.proofs.Common.{◌≡◌, ℕ, ◌+◌, ◌/◌, ◌≤◌, true, List, [], ◌∷◌, ◌++◌, Some, None, refl, arith, append_assoc, ◌⊎◌, Option, Result, Ok, Err, map, Bool, ◌&&◌, if◌then◌else◌, option_map, unwrap_or, Decides}
use Rattle.std.proofs.lemmas.Grind.{common_steps}
use Rattle.std.proofs.lemmas.List.Folds.{list_all-append}
use Rattle.std.proofs.lemmas.List.Sums.{sum_by_push, sum_by-append}
use Rattle.std.specs.List.{AllByRecursion, list_all}
use Rattle.std.specs.Prelude.{⊤}
use Rattle.humantime.proofs.Characters.{all_pass}

-- ==== Additions that do not overflow, one after the other.

-- Tests that no addition overflows after a sum of `t` nanoseconds.
abbrev pub room_from : ℕ → List Quantity → Bool
room_from t [] = true
room_from t (x ∷ xs) = has_room t x && room_from (t + quantity_nanos x) xs

-- The sum if no addition overflows, and `None` otherwise.
pub add_all-is : (t : ℕ) (xs : List Quantity)
    → add_all t xs ≡ (if room_from t xs then Some (t + total xs) else None)
add_all-is t [] = grind arith
add_all-is t (x ∷ xs) = grind (arith, common_steps, (add_all-is (t + quantity_nanos x) xs))

-- No addition of two joined lists overflows.
pub room_from-append : (t : ℕ) (xs ys : List Quantity)
    → room_from t (xs ++ ys) ≡ (room_from t xs && room_from (t + total xs) ys)
room_from-append t [] ys = grind arith
room_from-append t (x ∷ xs) ys =
    grind (arith, common_steps, (room_from-append (t + quantity_nanos x) xs ys))

-- If each addition fits after those before it, they can be added one by one.
from_each : (before xs : List Quantity) → AllHaveRoom (before ++ xs)
    → room_from (total before) xs ≡ true
from_each before [] h = refl
from_each before (x ∷ xs) h =
    grind (arith, append_assoc, sum_by_push, (from_each (before ++ x ∷ []) xs), (h before xs x))

pub room_tells : (xs : List Quantity) → Decides (room_from 0 xs) (AllHaveRoom xs)
room_tells xs = grind (arith, common_steps, (room_from-append 0), (from_each [] xs))

room_fits : (t : ℕ) (xs : List Quantity) → t / nanos_per_second ≤ u64_max → room_from t xs ≡ true
    → (t + total xs) / nanos_per_second ≤ u64_max
room_fits t [] fits h = omega arith
room_fits t (x ∷ xs) fits h = grind (arith, common_steps, (room_fits (t + quantity_nanos x) xs))

-- If no addition overflows, the sum is a duration.
pub room_is_duration : (xs : List Quantity) → AllHaveRoom xs → total xs / nanos_per_second ≤ u64_max
room_is_duration xs h = grind (arith, (room_fits 0 xs), (room_tells xs))

-- ==== The sum of spans by the reference, and whether they are within the limits.

-- Tests that each span keeps the limits after a sum of `t` nanoseconds.
abbrev pub within_from : ℕ → List SpelledSpan → Bool
within_from t ss = list_all fits ss && room_from t (additions ss)

pub value-cons : (s : SpelledSpan) (ss : List SpelledSpan)
    → value (s ∷ ss) ≡ total (additions_of s) + value ss
value-cons s ss = sum_by-append quantity_nanos (additions_of s) (additions ss)

-- Spans within the limits are added to the sum. Other spans are an overflow.
sum_spans-is : (t : ℕ) (ss : List SpelledSpan) (items : List (Result SpelledSpan Fault))
    → sum_spans t (map Ok ss ++ items)
    ≡ (if within_from t ss then sum_spans (t + value ss) items else Err NumberOverflow)
unfolding sum_spans add_span
sum_spans-is t [] items = grind arith
sum_spans-is t (s ∷ ss) items = grind (
  arith,
  add_all-is,
  room_from-append,
  (value-cons s ss),
  (sum_spans-is (t + total (additions_of s)) ss items),
)

pub within_tells : (ss : List SpelledSpan) → AllByRecursion Formed ss
    → Decides (within_from 0 ss) (WithinLimits ss)
within_tells ss f = grind (arith, (all_pass fits ss), (room_tells (additions ss)))

pub within_or_beyond : (spans : List SpelledSpan) → AllByRecursion Formed spans
    → WithinLimits spans ⊎ ¬ (WithinLimits spans)
within_or_beyond spans f = grind (arith, (within_tells spans f))

-- The sum of spans that an error may stop: the value or that error if they are within the limits,
-- and otherwise an overflow.
pub spans_summed : (spans : List SpelledSpan) (stop : Option Fault) → AllByRecursion Formed spans
    → (WithinLimits spans × (sum_spans 0 (items_of spans stop) ≡ unwrap_or (option_map Err stop) (Ok (value spans))))
    ⊎ (¬ (WithinLimits spans) × (sum_spans 0 (items_of spans stop) ≡ Err NumberOverflow))
unfolding sum_spans
spans_summed spans stop f =
    grind (arith, (sum_spans-is 0 spans (items_of [] stop)), (within_tells spans f))

-- The first spans of a list are within the limits if all are.
pub within_from-front : (t : ℕ) (ss ts : List SpelledSpan) → within_from t (ss ++ ts) ≡ true
    → within_from t ss ≡ true
within_from-front t ss ts h = grind (arith, common_steps, room_from-append, list_all-append)

-- ==== Additions that do not overflow if the whole sum is a duration.

-- An addition of nanoseconds, together with the nanoseconds of any sum below a second, fits a
-- `u64`.
abbrev pub IsSmall : Quantity → Type 0
IsSmall (Nanos n) = n + 999999999 ≤ u64_max
IsSmall (Seconds n) = ⊤

room_from_small : (t : ℕ) (xs : List Quantity) → AllByRecursion IsSmall xs
    → (t + total xs) / nanos_per_second ≤ u64_max → room_from t xs ≡ true
room_from_small t [] small fits = grind arith
room_from_small t (x ∷ xs) small fits =
    grind (arith, common_steps, (room_from_small (t + quantity_nanos x) xs small.1))

-- Small additions do not overflow if their sum is a duration.
pub small_have_room : (xs : List Quantity) → AllByRecursion IsSmall xs
    → total xs / nanos_per_second ≤ u64_max → AllHaveRoom xs
small_have_room xs small fits = (room_tells xs).0 (room_from_small 0 xs small (grind arith))
