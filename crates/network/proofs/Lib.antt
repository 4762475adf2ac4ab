-- Laws of the network's words, on plain lists.
pub mod Views
pub mod Stations
pub mod Branches
pub mod KindLaw
pub mod Counts
pub mod Occupied
pub mod Rest
