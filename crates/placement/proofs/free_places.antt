-- Laws of the search, and of two searches side by side.
pub mod Searching
pub mod Columns
pub mod SearchDoubles
