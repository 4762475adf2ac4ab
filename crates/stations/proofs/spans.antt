-- Laws of a bus's first and last row.
pub mod Rows
