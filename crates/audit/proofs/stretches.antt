-- Laws that the functions' proofs and the crates above use.
pub mod Stretches
pub mod Cases
