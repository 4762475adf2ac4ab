pub mod Window
pub mod Cells
pub mod Kept
pub mod Sweep
