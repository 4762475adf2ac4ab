-- What fills the front of a buffer.
mod Fronts
