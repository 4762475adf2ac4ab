pub mod Branching
pub mod Filling
pub mod Tracing
pub mod Rows
pub mod Known
