-- What fills give, one after the other.
pub mod Fills
pub mod Calls
pub mod Largest
