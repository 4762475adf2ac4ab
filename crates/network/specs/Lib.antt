pub mod Words
pub mod Views
pub mod Lent
pub mod Mesh
pub mod Cases
pub mod Options
pub mod Seed
pub mod Refusal
