pub mod Store
pub mod Views
pub mod Traced
pub mod Exits
pub mod RoundLists
pub mod Led
pub mod Routed
pub mod Lent
