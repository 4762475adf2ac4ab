pub mod Route
pub mod Clearance
pub mod Cases
pub mod Laws
pub mod Routes
pub mod Stages
