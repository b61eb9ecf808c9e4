pub mod Positions
pub mod Texts
