pub mod Located
pub mod Logs
pub mod Rounding
pub mod Schedule
