-- Laws of places in a station, on plain lists.
pub mod Prefix
pub mod Placing
mod Walking
pub mod Fronts
