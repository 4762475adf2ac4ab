-- Laws of the walk of a line.
mod Seeking
mod Steps
pub mod Walks
pub mod Crossed
