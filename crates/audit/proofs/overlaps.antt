-- Laws that the functions' proofs and the crates above use.
pub mod NoOverlapping
pub mod Pairs
pub mod Stops
pub mod Sweeps
pub mod Cases
