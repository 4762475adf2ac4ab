-- Laws of a whole drawing.
mod Numbers
mod Joins
mod Reading
mod Every
mod NoMinus
mod Detours
mod Opened
mod Call
mod Boxed
mod Parts
mod Barred
mod Crossed
mod Routed
pub mod Whole
mod Claiming
pub mod Largest
pub mod Cases
