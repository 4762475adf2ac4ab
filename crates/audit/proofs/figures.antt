-- Laws that the functions' proofs and the crates above use.
pub mod Front
pub mod Stationwise
pub mod Reading
