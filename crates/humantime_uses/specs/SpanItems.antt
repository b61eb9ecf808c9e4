-- The longest span of a text.
use Rattle.std.specs.Prelude.{ℕ, List, [], ◌∷◌, Result, Ok, Err, chars, max, slice_range, unwrap_or}
use Rattle.std.specs.Result.{result_ok}
use Rattle.humantime.specs.Prelude.{Fault, SpanView, duration_answer}

-- Returns the nanoseconds of a span that is parsed on its own, or 0 for an error. The text is its
-- bytes.
abbrev pub nanos_alone : List ℕ → Result SpanView Fault → ℕ
nanos_alone text (Ok span) =
    unwrap_or (result_ok (duration_answer (chars (slice_range text span.start span.end)))) 0
nanos_alone text (Err e) = 0

-- Returns the greatest of these over the items of a text.
abbrev pub longest_of : List ℕ → List (Result SpanView Fault) → ℕ
longest_of text [] = 0
longest_of text (item ∷ items) = max (nanos_alone text item) (longest_of text items)
