-- Laws of the rounds of spacing.
mod Ranges
mod Putting
mod Pointing
mod Making
pub mod Routed
pub mod CrossedSizes
mod Meaning
mod Holding
mod Ends
