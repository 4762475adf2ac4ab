-- Laws of the figures.
pub mod Figuring
