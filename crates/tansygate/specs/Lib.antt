pub mod Lists
pub mod Work
pub mod Drawn
pub mod Audited
