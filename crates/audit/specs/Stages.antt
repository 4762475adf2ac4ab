pub mod Sweep
pub mod Views
