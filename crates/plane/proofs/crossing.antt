-- Laws that the functions above this crate use, and those of the test that answers for parallel directions without their lengths.
pub mod Parallels
pub mod Crossing
pub mod Places
