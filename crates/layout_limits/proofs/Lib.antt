-- Laws of the refusals by input.
pub mod Inputs
