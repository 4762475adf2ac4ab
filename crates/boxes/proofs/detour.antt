-- Laws that the functions' proofs use.
pub mod Shifting
pub mod Detours
pub mod DetourSizes
pub mod Turning
