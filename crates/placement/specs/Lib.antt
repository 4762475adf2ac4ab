pub mod Place
pub mod Turns
pub mod Search
pub mod Doubles
pub mod Sized
pub mod Stages
