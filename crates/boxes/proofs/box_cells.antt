-- Laws that the functions' proofs and the crates above use.
pub mod Chaining
pub mod Entering
pub mod Lengths
pub mod Occupied
