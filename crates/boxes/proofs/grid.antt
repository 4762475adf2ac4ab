-- Laws that the functions' proofs and the crates above use.
pub mod CellCode
pub mod CellLaws
