-- A duration as nine counts, its printed text, and the canonical text of the duration that a text
-- denotes. A text is its list of bytes.
use Rattle.std.specs.Prelude.{◌≡◌, ℕ, ◌+◌, ◌*◌, Bool, true, false, ◌&&◌, List, [], ◌∷◌, ◌++◌, length, map, codes, decimal, nat_lt, if◌then◌else◌, chars, IsTrue}
use Rattle.std.specs.List.{filter, zip, join_with_byte}
use Rattle.std.specs.Str.{byte}
use Rattle.std.specs.Ordering.{nat_cmp, is_le}
use Rattle.std.specs.Cmp.Lexicographic.{slice_cmp}
use Rattle.humantime.specs.Characters.{micro_suffix}
use Rattle.humantime.specs.Values.{nanos_per_micro, nanos_per_milli, nanos_per_second, seconds_per_minute, seconds_per_hour, seconds_per_day, seconds_per_month, seconds_per_year}
use Rattle.humantime.specs.Durations.{Accepted}

-- The lengths of a year, month, day, hour, minute, second, millisecond, microsecond and nanosecond,
-- in nanoseconds.
abbrev pub weights : List ℕ
weights =
    seconds_per_year * nanos_per_second ∷ seconds_per_month * nanos_per_second
    ∷ seconds_per_day * nanos_per_second ∷ seconds_per_hour * nanos_per_second
    ∷ seconds_per_minute * nanos_per_second ∷ nanos_per_second
    ∷ nanos_per_milli ∷ nanos_per_micro ∷ 1 ∷ []

-- Returns the sum of the counts, each multiplied by its weight.
abbrev pub weighted_sum : List ℕ → List ℕ → ℕ
weighted_sum [] counts = 0
weighted_sum (w ∷ ws) [] = 0
weighted_sum (w ∷ ws) (c ∷ cs) = w * c + weighted_sum ws cs

-- The counts, one for each weight, have the weighted sum `d`, and are lexicographically the
-- greatest such counts.
pub record AreCounts (d : ℕ) (counts : List ℕ) : Type 0 where
  pub as_many : length counts ≡ length weights
  pub sum : weighted_sum weights counts ≡ d
  pub greatest : (others : List ℕ) → length others ≡ length weights
      → weighted_sum weights others ≡ d
      → IsTrue (is_le (slice_cmp nat_cmp others counts))

-- A suffix is the unit that follows a count, and whether an `s` follows it if the count is above 1.
pub record Suffix : Type 0 where
  pub unit : List ℕ
  pub has_plural : Bool

-- The suffix of a unit that has a plural.
abbrev pub with_plural : List ℕ → Suffix
with_plural unit = record { unit = unit; has_plural = true }

-- The suffix of a unit that has no plural.
abbrev pub without_plural : List ℕ → Suffix
without_plural unit = record { unit = unit; has_plural = false }

-- The suffixes of the nine counts.
abbrev pub suffixes : List Suffix
suffixes =
    with_plural (codes "year") ∷ with_plural (codes "month") ∷ with_plural (codes "day")
    ∷ without_plural (codes "h") ∷ without_plural (codes "m") ∷ without_plural (codes "s")
    ∷ without_plural (codes "ms") ∷ without_plural micro_suffix ∷ without_plural (codes "ns") ∷ []

-- Returns a count in decimal with its suffix.
abbrev pub printed_count : ℕ → Suffix → List ℕ
printed_count n s = decimal n ++ s.unit ++ (if s.has_plural && nat_lt 1 n then codes "s" else [])

-- Returns the texts of the counts that are not zero, each with its suffix.
abbrev pub printed_counts : List ℕ → List Suffix → List (List ℕ)
printed_counts counts units =
    map (λ c. printed_count c.0 c.1) (filter (λ c. nat_lt 0 c.0) (zip counts units))

-- Joins texts with single spaces, and returns `0s` if there are none.
abbrev pub joined_or_zero : List (List ℕ) → List ℕ
joined_or_zero [] = codes "0s"
joined_or_zero texts = join_with_byte (byte " ") texts

-- The canonical text of `d` nanoseconds is its nonzero counts with suffixes, joined with single
-- spaces, or `0s`.
pub record IsCanonicalText (d : ℕ) (bytes : List ℕ) : Type 0 where
  pub counts : List ℕ
  pub are : AreCounts d counts
  pub shown : bytes ≡ joined_or_zero (printed_counts counts suffixes)

-- The first text is accepted, and the second is the canonical text of its duration.
pub record CanonicalizesTo (bytes printed : List ℕ) : Type 0 where
  pub duration : ℕ
  pub accepted : Accepted (chars bytes) duration
  pub canon : IsCanonicalText duration printed
