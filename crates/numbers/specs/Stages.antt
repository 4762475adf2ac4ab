pub mod Steps
pub mod Merge
