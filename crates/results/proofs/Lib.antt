-- Laws that the functions' proofs use.
pub mod Writes
pub mod Bounding
pub mod Turns
