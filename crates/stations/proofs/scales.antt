-- Laws that the functions' proofs and the crates above use.
pub mod NearScales
pub mod Scaled
pub mod ScaleSizes
