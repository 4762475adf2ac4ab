pub mod Bars
pub mod Passes
pub mod Pieces
pub mod Lines
pub mod Runs
pub mod Lent
