-- Laws of the whole call.
pub mod Calls
pub mod Drawn
