-- Laws of refusals and answers.
pub mod Early
pub mod Fitting
pub mod Written
pub mod Lates
pub mod Number
pub mod Finite
pub mod Lent
