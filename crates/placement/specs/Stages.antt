pub mod Views
pub mod Listed
pub mod Among
pub mod OneProof
pub mod Plan
pub mod Lent
