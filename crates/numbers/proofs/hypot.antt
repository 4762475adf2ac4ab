-- Laws that the functions' proofs use.
pub mod Extend
pub mod Lengths
pub mod Words
pub mod Digit
pub mod Packing
pub mod HypotenuseLaw
