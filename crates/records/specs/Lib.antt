pub mod Plain
pub mod Lent
