pub mod Offset
pub mod Complete
pub mod Stages
