-- Laws of rows, on plain lists.
mod Ends
mod Entries
mod Rowing
pub mod RowLaw
pub mod Orders
pub mod RowOrder
