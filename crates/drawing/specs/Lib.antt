pub mod Network
pub mod Drawing
pub mod Answer
pub mod Number
pub mod Laws
