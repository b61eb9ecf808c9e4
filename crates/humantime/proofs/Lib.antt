-- What callers cite.
pub mod Theorems
pub mod OnLiterals
-- The spans of a text.
pub mod Characters
pub mod Spellings
pub mod Sums
pub mod TextWalks
pub mod Outcomes
pub mod JoinedTexts
pub mod Slices
pub mod Items
-- The parser of durations, on the bytes of a text.
pub mod Offsets
pub mod SpanParts
pub mod UnitWords
-- Printing durations.
pub mod Counts
pub mod CanonicalTexts
-- Dates and timestamps.
pub mod Dates
pub mod TimestampParts
pub mod Checks
pub mod TimestampOutcomes
pub mod PrintedTimestamps
-- Messages, values and buffers.
pub mod Messages
pub mod Moments
pub mod Buffers
