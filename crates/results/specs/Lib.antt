pub mod Bounds
pub mod Stages
