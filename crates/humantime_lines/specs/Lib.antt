pub mod Carets
pub mod Escapes
pub mod Lines
pub mod MarkedLines
