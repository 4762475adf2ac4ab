pub mod Lengths
pub mod LaidOut
pub mod Charted
