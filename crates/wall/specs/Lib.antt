pub mod Wall
pub mod Claim
pub mod Cases
pub mod Laws
pub mod Largest
