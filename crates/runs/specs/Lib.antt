pub mod Run
pub mod Finite
pub mod Lists
pub mod Stages
