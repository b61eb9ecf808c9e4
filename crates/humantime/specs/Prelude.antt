-- The definitions that a caller's contracts need, in one module. Each has a comment where it is
-- defined.

-- Existence and uniqueness.
pub use Rattle.humantime.specs.Laws.{ExactlyOne}
-- Amounts of time, moments and dates.
pub use Rattle.humantime.specs.Values.{nanos_per_second, duration_end, moment, second_of, nano_of, moment_end}
pub use Rattle.humantime.specs.Calendar.{IsDate, day_of}
pub use Rattle.humantime.specs.Laws.{IsDateOfDay}
-- Parsing durations: the result as a function of the characters, and the relations that define it.
pub use Rattle.humantime.specs.Characters.{bare_zero}
pub use Rattle.humantime.specs.DurationErrors.{result_view, text_result_view, fault_of, PointsInto, IsCharStartIn, IsRangeIn, IsPartOf, fault_message, unit_message, fault_offset}
pub use Rattle.humantime.specs.DurationResults.{IsDurationAnswer, duration_answer, canonical_answer, duration_text}
pub use Rattle.humantime.specs.Durations.{Accepted, BareZero, SumOf, value, additions, WithinLimits, AllHaveRoom, SpelledSpan, Reads}
pub use Rattle.humantime.specs.DurationErrors.{Fault, InvalidCharacter, NumberExpected, UnknownUnit, NumberOverflow, Empty, HasFault}
pub use Rattle.humantime.specs.Laws.{without_whitespace, AreReordered, AcceptedWithZeros, older_additions}
-- The items of a text.
pub use Rattle.humantime.specs.Items.{Items, SpansAndStop, SpanView, AreItems}
pub use Rattle.humantime.specs.Laws.{slices_of, IsTiled}
pub use Rattle.humantime.specs.SpanResults.{span_view, items_left, text_of, GivesItem}
-- Printing durations.
pub use Rattle.humantime.specs.PrintedDurations.{AreCounts, IsCanonicalText, CanonicalizesTo}
-- Parsing timestamps.
pub use Rattle.humantime.specs.Timestamps.{Fields, Check, IsWeak, IsStrict, IsWeakMoment, IsStrictMoment, weak_checks, strict_checks, first_failed, timestamp_message}
pub use Rattle.humantime.specs.TimestampResults.{weak_answer, strict_answer, IsWeakAnswer, IsStrictAnswer, moment_text, printed_text, shortest_text, DisplaysMoment}
-- Printing timestamps.
pub use Rattle.humantime.specs.Timestamps.{MomentToPrint, places_of, cut, IsPrinted, IsPrintedWith, IsPrintable}
pub use Rattle.humantime.specs.Laws.{HasTAndZone, ReadsAs}
-- Buffers after a call that returned an error or `None`.
pub use Rattle.humantime.specs.Buffers.{UnchangedOnNone, UnchangedOnErr}
