pub mod Table
pub mod Tests
pub mod Laws
