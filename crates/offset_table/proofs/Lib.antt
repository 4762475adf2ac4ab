-- Laws that the functions' proofs and the crates above use.
pub mod Pairs
pub mod Sizes
-- Laws of the table of offsets.
pub mod Rule
