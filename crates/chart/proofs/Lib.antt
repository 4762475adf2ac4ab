-- Laws that the functions' proofs use.
pub mod Smalls
pub mod Scenes
pub mod Laying
pub mod Charts
