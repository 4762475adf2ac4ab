-- Laws of refusals and answers, for the crates above.
pub mod Early
pub mod Lates
pub mod Accepted
pub mod Number
pub mod Lent
