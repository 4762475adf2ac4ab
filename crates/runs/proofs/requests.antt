-- Laws that the functions' proofs use.
mod Made
pub mod Requesting
