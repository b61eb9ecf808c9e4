-- What callers cite, in one module.
pub mod Prelude
-- What values mean.
pub mod Characters
pub mod Values
pub mod Calendar
-- The text of a duration.
pub mod Durations
pub mod DurationErrors
pub mod Items
pub mod PrintedDurations
-- The text of a timestamp.
pub mod Timestamps
-- The result of each call as one function of its arguments. Public contracts cite these functions,
-- and theorems in `proofs` relate them to the definitions above.
pub mod Walks
pub mod DurationResults
pub mod SpanResults
pub mod TimestampResults
pub mod Buffers
-- The statements of the laws. The functions of `src/laws` have them as contracts, which are proved.
pub mod Laws
-- The definitions that the contracts of private functions cite. Public contracts do not depend on
-- them.
pub mod PrivateTypes
pub mod PrivateFunctions
