-- Laws that the functions' proofs use.
pub mod Paths
pub mod RunSizes
