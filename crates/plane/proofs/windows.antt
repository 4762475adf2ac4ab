-- Laws that the functions' proofs and the crates above use.
pub mod Monotone
pub mod WindowLaws
