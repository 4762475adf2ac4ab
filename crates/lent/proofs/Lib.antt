-- Laws of the lent lists.
pub mod Least
