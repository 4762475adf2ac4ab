pub mod Round
pub mod Trace
pub mod Cases
pub mod Channel
pub mod Space
pub mod Laws
pub mod Stages
