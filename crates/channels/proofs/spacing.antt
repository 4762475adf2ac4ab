-- Laws of spacing.
mod Back
mod Cases
mod Filling
mod Passes
pub mod SpaceSizes
pub mod Spacing
mod Ways
pub mod Crossed
pub mod Finite
