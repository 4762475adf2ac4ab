pub mod Cells
pub mod Enter
pub mod Lent
pub mod Looks
pub mod Paths
