pub mod Twice
pub mod Doubling
pub mod Example
pub mod Laws
