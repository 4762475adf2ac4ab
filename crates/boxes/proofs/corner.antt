-- Laws of the choice of a corner, and of the length of a way over it.
pub mod Choosing
pub mod CostSizes
