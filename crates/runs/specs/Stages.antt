pub mod Views
pub mod Requests
pub mod Lent
