-- Laws that the functions' proofs and the crates above use.
pub mod Sides
pub mod Apart
