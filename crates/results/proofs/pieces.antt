-- Laws that the functions' proofs use.
pub mod Laws
pub mod Puts
