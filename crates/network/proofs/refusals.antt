-- Laws of the refusals' tests, of their numbers and of answers, and what refusals 1 to 4 promise where none applies, and 6 of seeds.
mod Refusals
pub mod Numbers
pub mod Unless
pub mod Shapes
pub mod SeedSizes
