-- Laws that the functions' proofs use.
pub mod Joined
