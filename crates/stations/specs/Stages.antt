pub mod Ranking
pub mod Entry
pub mod Views
pub mod Span
pub mod Lent
pub mod Measured
