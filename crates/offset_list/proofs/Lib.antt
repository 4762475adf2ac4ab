-- The generated pairs and the table's.
pub mod Generated
