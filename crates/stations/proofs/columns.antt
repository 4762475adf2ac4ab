-- Laws of columns.
pub mod Falls
pub mod ColumnLaw
