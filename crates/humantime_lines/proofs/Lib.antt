pub mod Carets
pub mod Lines
pub mod Windows
