-- Laws that the functions' proofs and the crates above use.
pub mod Folds
pub mod Passing
pub mod Turns
pub mod Marching
pub mod Ends
