-- What a span and an item borrow from their text, and the items that an iterator over spans has not
-- returned yet.
use Rattle.std.specs.Prelude.{◌≡◌, ℕ, ◌==◌, List, [], Option, Result, Ok, Err, IfSome, MatchResult, length, if◌then◌else◌, option_map, chars}
use Rattle.std.specs.Iterator.{YieldsFirstBy}
use Rattle.std.specs.Str.{drop_trailing_whitespace}
use Rattle.humantime.specs.declared.duration.error.DurationError.{DurationError}
use Rattle.humantime.specs.declared.duration.iter.SpanIter.{SpanIter}
use Rattle.humantime.specs.declared.duration.span.Span.{Span}
use Rattle.humantime.specs.Characters.{drop_while, is_whitespace}
use Rattle.humantime.specs.DurationErrors.{IsRangeIn, PointsInto, fault_of, Fault}
use Rattle.humantime.specs.Items.{SpanView}
use Rattle.humantime.specs.DurationResults.{items_from, trimmed}

-- The slices, offsets and number of a span.
abbrev pub span_view : Span → SpanView
span_view s = record {
  number = drop_trailing_whitespace (chars s.number.text.now);
  fraction = option_map (λ f. trimmed (chars f.1.now)) s.number.fraction;
  unit = chars s.unit.now;
  start = s.start;
  end = s.end;
  value = s.number.value;
}

-- The view of an item: that of its span, or the fault of its error.
abbrev pub item_of : Result Span DurationError → Result SpanView Fault
item_of (Ok s) = Ok (span_view s)
item_of (Err e) = Err (fault_of e)

-- The items of a text that have not been returned yet: none after an error or the end of the text.
abbrev pub items_left : SpanIter → List (Result SpanView Fault)
items_left i =
    if i.ended then []
    else items_from (length i.rest.now == length i.text.now) (chars i.text.now)
    (drop_while is_whitespace (chars i.rest.now))

-- The text that an iterator borrows.
abbrev pub text_of : SpanIter → List ℕ
text_of i = i.text.now

-- The offsets of the span lie in the text.
abbrev pub IsSpanIn : List ℕ → Span → Type 0
IsSpanIn bytes s = IsRangeIn bytes s.start s.end

-- The offsets of the span lie in the text, or the error points into the text.
abbrev pub IsItemIn : List ℕ → Result Span DurationError → Type 0
IsItemIn bytes item = MatchResult item (IsSpanIn bytes) (PointsInto bytes)

-- `next` returned the first of the remaining items and left the others, or returned `None` if none
-- remained. The iterator still reads the same text, and the item lies in it.
abbrev pub GivesItem : SpanIter → Option (Result Span DurationError) → SpanIter → Type 0
GivesItem old result new =
    YieldsFirstBy item_of items_left old result new
    × (text_of new ≡ text_of old)
    × IfSome result (IsItemIn (text_of old))
