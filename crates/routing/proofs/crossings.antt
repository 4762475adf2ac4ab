-- Laws that the functions' proofs and the crates above use.
pub mod Occupied
pub mod Marking
pub mod Written
pub mod Numbers
pub mod Stamps
pub mod Marks
pub mod Growing
