-- Laws that the functions' proofs and the crates above use.
pub mod Fields
pub mod Bounds
pub mod Spelling
