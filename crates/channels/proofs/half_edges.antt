-- Laws of half-edges by their vertex.
pub mod Rounds
