-- Laws that the functions' proofs use.
pub mod Lines
pub mod Reading
pub mod Parsing
pub mod Laws
pub mod Cases
pub mod Writing
