-- Laws that the functions' proofs and the crates above use.
pub mod Queue
pub mod OrderLaw
