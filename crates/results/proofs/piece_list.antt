-- Laws that the functions' proofs use.
pub mod Adding
pub mod Leading
pub mod Passes
