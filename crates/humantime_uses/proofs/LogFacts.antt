-- The timestamp of any line of a log, and what follows it: each rule written out.
use Rattle.std.proofs.Common.{◌≡◌, ℕ, ◌≤◌, ◌==◌, ◌||◌, Bool, true, false, List, [], ◌∷◌, ◌++◌, length, drop, take, arith, refl}
use Rattle.std.proofs.lemmas.Bool.Decides.{nat_tests}
use Rattle.std.proofs.lemmas.Grind.{common_steps}
use Rattle.std.specs.List.{before_first, after_first, position_or_len, AllByRecursion}
use Rattle.std.proofs.Math.Seq.{drop-append-add, drop-append_seam, take-append_seam}
use Rattle.std.specs.Char.{is_ascii_whitespace}
use Rattle.humantime_std.specs.Logs.{after_stamp, leading_stamp}

-- A tab, a line feed, a form feed, a carriage return and a space are whitespace, and no other byte.
any_white : (b : ℕ) → is_ascii_whitespace b
    ≡ ((b == 9) || (b == 10) || (b == 12) || (b == 13) || (b == 32))
any_white b = grind (arith, nat_tests)

-- A line of at most 11 bytes has nothing after its timestamp.
short_line : (line : List ℕ) → length line ≤ 11 → (leading_stamp line ≡ line)
    × (after_stamp line ≡ [])
short_line line short = grind (arith, common_steps)

-- ---- a list at the first element that passes a test

abbrev NonePasses : (ℕ → Bool) → List ℕ → Type 0
NonePasses p xs = AllByRecursion (λ x. p x ≡ false) xs

first_place : (p : ℕ → Bool) (xs rest : List ℕ) (b : ℕ) → NonePasses p xs → p b ≡ true
    → position_or_len p (xs ++ b ∷ rest) ≡ length xs
first_place p [] rest b none passes = grind (arith, passes)
first_place p (x ∷ xs) rest b none passes =
    grind (arith, none, (first_place p xs rest b none.1 passes))

first_passing : (p : ℕ → Bool) (xs rest : List ℕ) (b : ℕ) → NonePasses p xs → p b ≡ true
    → (before_first p (xs ++ b ∷ rest) ≡ xs) × (after_first p (xs ++ b ∷ rest) ≡ rest)
first_passing p xs rest b none passes =
    let front = take-append_seam xs (b ∷ rest) in
    rw (first_place p xs rest b none passes) (front, drop-append-add xs (b ∷ rest) 1)

none_passing : (p : ℕ → Bool) (xs : List ℕ) → NonePasses p xs
    → (before_first p xs ≡ xs) × (after_first p xs ≡ [])
none_passing p [] none = (refl, refl)
none_passing p (x ∷ xs) none = grind (arith, common_steps, none, (none_passing p xs none.1))

-- ---- lines of more than 11 bytes

module _ (date time : List ℕ) (none : NonePasses is_ascii_whitespace time) where
  split_after : (n : ℕ) (rest : List ℕ) → length date ≡ n
      → (take n (date ++ rest) ≡ date) × (drop n (date ++ rest) ≡ rest)
  split_after n rest long = rw (← long) (take-append_seam date rest, drop-append_seam date rest)

  -- Whitespace in the first 11 bytes does not count. The first one after them is in neither part.
  any_line : (b : ℕ) (rest : List ℕ) → length date ≡ 11 → is_ascii_whitespace b ≡ true
      → let line = date ++ (time ++ b ∷ rest) in
      (leading_stamp line ≡ date ++ time) × (after_stamp line ≡ rest)
  any_line b rest eleven white =
      let parts = split_after 11 (time ++ b ∷ rest) eleven in
      let found = first_passing is_ascii_whitespace time rest b none white in
      (rw (parts.0, parts.1, found.0) refl, rw (parts.1, found.1) refl)

  -- Without whitespace after 11 bytes, the whole line is the timestamp.
  whole_line : length date ≡ 11 → let line = date ++ time in
      (leading_stamp line ≡ line) × (after_stamp line ≡ [])
  whole_line eleven =
      let parts = split_after 11 time eleven in
      let found = none_passing is_ascii_whitespace time none in
      (rw (parts.0, parts.1, found.0) refl, rw (parts.1, found.1) refl)
