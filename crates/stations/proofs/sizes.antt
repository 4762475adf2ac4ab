-- Laws that the functions' proofs and the crates above use.
pub mod Blocks
pub mod Occupied
pub mod SideSizes
