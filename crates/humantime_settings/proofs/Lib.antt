pub mod Forms
pub mod PositionFacts
