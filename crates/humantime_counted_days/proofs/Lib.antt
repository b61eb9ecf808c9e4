pub mod CountedDays
