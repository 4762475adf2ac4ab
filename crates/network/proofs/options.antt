-- What options in range promise.
pub mod Ranges
