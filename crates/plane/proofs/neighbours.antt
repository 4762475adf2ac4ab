-- Laws that the functions' proofs and the crates above use.
pub mod Scans
pub mod Fills
mod Leasts
pub mod Places
mod Stops
mod Sweeps
mod Numbers
