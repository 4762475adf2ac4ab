-- Laws that the functions' proofs and the crates above use.
pub mod Tabling
pub mod Grouping
